-- Which symbol of a command takes which token.
use Rattle.std.proofs.Common.{ℕ, zero, suc, ◌≡◌, ◌+◌, List, [], ◌∷◌, ◌++◌, Bool, true, false, Some, None, drop, refl, ap, ◌∙◌, add-one, append_assoc}
use Rattle.std.specs.Prelude.{codes}
use Rattle.ent_types.specs.TypeSets.{with_type}
use Rattle.ent_types.specs.declared.entity.TypeId.{TypeId}
use Rattle.expr_tokens.specs.Tokens.{word, sign}
use Rattle.expr_tokens.specs.declared.sign.Sign.TheVariants.{Open, Close, Comma}
use Rattle.expr_grammar.specs.declared.symbol.Symbol.{Symbol}
use Rattle.expr_grammar.specs.declared.symbol.Symbol.TheVariants as wait
use Rattle.expr_grammar.specs.declared.symbol.Action.TheVariants as act
use Rattle.expr_grammar.specs.declared.words.TypeUse.{TypeUse}
use Rattle.expr_grammar.specs.declared.words.TypeUse.TheVariants.{Added}
use Rattle.expr_grammar.specs.declared.words.Verb.{Verb}
use Rattle.expr_grammar.specs.declared.words.Verb.TheVariants as verbs
use Rattle.expr_grammar.specs.declared.words.Change.TheVariants as changes
use Rattle.expr_grammar.specs.declared.words.Turn.TheVariants as turns
use Rattle.expr_grammar.specs.Fitting.{FitsType}
use Rattle.expr_grammar.specs.Grammar.{change_word, turn_word}
use Rattle.expr_grammar.specs.Scopes.{Scope}
use Rattle.expr_grammar.specs.Machine.{take, may_begin, behind_verb, value_place, first_of, kind_at, values_of, part_places, joined_part, ids}

pub drop_next : (n : ℕ) (xs : List Bool) (k : Bool) (ks : List Bool) → drop n xs ≡ k ∷ ks → drop (n + 1) xs ≡ ks
drop_next n xs k ks e = ap (λ m. drop m xs) (add-one n) ∙ by n xs e where
  by : (n : ℕ) (xs : List Bool) → drop n xs ≡ k ∷ ks → drop (suc n) xs ≡ ks
  by zero [] e = absurd cc
  by zero (x ∷ xs) e = cc
  by (suc n) [] e = absurd cc
  by (suc n) (x ∷ xs) e = by n xs e

pub first_split : (xs : List Bool) (k : Bool) → first_of xs ≡ Some k → (ks : List Bool) × (xs ≡ k ∷ ks)
first_split [] k e = absurd cc
first_split (x ∷ xs) k e = (xs, let same : x ≡ k = cc in ap (λ y. y ∷ xs) same)

-- the word of a command
abbrev pub verb_word : Verb → List ℕ
verb_word verbs.Create = codes "create"
verb_word verbs.Destroy = codes "destroy"
verb_word (verbs.Change c) = change_word c
verb_word (verbs.Turn t) = turn_word t
verb_word verbs.Instantiate = codes "instantiate"

module _ (s : Scope) where
  pub joined_append : (used : List ℕ) (ty : TypeId) (below : List Symbol)
      → joined_part s used ty ++ below ≡ wait.Do (act.Part ty) ∷ (values_of ty (kind_at (s.refs ty) 0) ++ wait.Do act.Join ∷ wait.MoreParts (with_type used ty.0) ∷ below)
  joined_append used ty below =
      ap (λ l. wait.Do (act.Part ty) ∷ l) (append_assoc (values_of ty (kind_at (s.refs ty) 0)) (wait.Do act.Join ∷ wait.MoreParts (with_type used ty.0) ∷ []) below)

module _ (s : Scope) (limit : ℕ) where
  pub take_verb : (v : Verb) → may_begin s v ≡ true → take s limit wait.Verb (word (verb_word v)) ≡ Some (behind_verb v)
  unfolding take
  take_verb verbs.Create h = refl
  take_verb verbs.Destroy h = refl
  take_verb verbs.Instantiate h = refl
  take_verb (verbs.Change c) h = by c h where
    by : (c : _) → may_begin s (verbs.Change c) ≡ true → take s limit wait.Verb (word (change_word c)) ≡ Some (behind_verb (verbs.Change c))
    by changes.Add h = rw h refl
    by changes.Set h = rw h refl
    by changes.SetShared h = rw h refl
  take_verb (verbs.Turn t) h = by t h where
    by : (t : _) → may_begin s (verbs.Turn t) ≡ true → take s limit wait.Verb (word (turn_word t)) ≡ Some (behind_verb (verbs.Turn t))
    by turns.Remove h = rw h refl
    by turns.Enable h = rw h refl
    by turns.Disable h = rw h refl

  pub take_new : (name : List ℕ) → s.is_new name ≡ true → take s limit wait.New (word name) ≡ Some (wait.Do (act.New name) ∷ [])
  unfolding take
  take_new name h = rw h refl

  pub take_from : take s limit wait.From (word (codes "from")) ≡ Some []
  unfolding take
  take_from = refl

  pub take_with : s.has_type Added [] ≡ true → take s limit wait.With (word (codes "with")) ≡ Some (wait.Parts [] ∷ [])
  unfolding take
  take_with h = rw h refl

  pub take_part : (role : TypeUse) (name : List ℕ) (ty : TypeId) → FitsType s role name ty → take s limit (wait.Part role) (word name) ≡ Some (part_places s ty)
  unfolding take
  take_part role name ty is = rw (is.0, is.1) refl

  pub take_joined : (used : List ℕ) (name : List ℕ) (ty : TypeId) → s.find name ≡ Some ty → s.allows Added ty ≡ true → s.holds (ids used) ty ≡ false
      → take s limit (wait.Parts used) (word name) ≡ Some (joined_part s used ty)
  unfolding take
  take_joined used name ty is may new = rw (is, may, new) refl

  pub take_comma_of_parts : (used : List ℕ) → s.has_type Added (ids used) ≡ true → take s limit (wait.MoreParts used) (sign Comma) ≡ Some (wait.Parts used ∷ [])
  unfolding take
  take_comma_of_parts used h = rw h refl

  pub take_first_value : (ty : TypeId) (k : Bool) → kind_at (s.refs ty) 0 ≡ Some k
      → take s limit (wait.Values ty) (sign Open) ≡ Some (value_place true k ∷ wait.Do act.Value ∷ wait.MoreValues ty 1 ∷ [])
  unfolding take
  take_first_value ty k h = rw h refl

  pub take_next_value : (ty : TypeId) (at : ℕ) (k : Bool) → kind_at (s.refs ty) at ≡ Some k
      → take s limit (wait.MoreValues ty at) (sign Comma) ≡ Some (value_place true k ∷ wait.Do act.Value ∷ wait.MoreValues ty (at + 1) ∷ [])
  unfolding take
  take_next_value ty at k h = rw h refl

  pub take_no_more : (ty : TypeId) (at : ℕ) → kind_at (s.refs ty) at ≡ None → take s limit (wait.MoreValues ty at) (sign Close) ≡ Some []
  unfolding take
  take_no_more ty at h = rw h refl
