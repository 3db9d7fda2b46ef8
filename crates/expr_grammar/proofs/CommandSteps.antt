-- Which token a symbol of a command takes.
use Rattle.std.proofs.Common.{ℕ, ◌≡◌, ◌+◌, List, [], ◌∷◌, ◌⊎◌, inl, inr, Bool, true, false, not, ◌&&◌, Option, Some, None, refl}
use Rattle.std.specs.Prelude.{codes}
use Rattle.std.proofs.lemmas.Bool.{and_parts, not-true}
use Rattle.ent_types.specs.Types.{same_name}
use Rattle.ent_types.specs.declared.entity.TypeId.{TypeId}
use Rattle.expr_tokens.specs.Tokens.{Token, word, number as numeral, sign, bad}
use Rattle.expr_tokens.specs.declared.sign.Sign.TheVariants.{Open, Close, Comma}
use Rattle.expr_grammar.specs.declared.symbol.Symbol.{Symbol}
use Rattle.expr_grammar.specs.declared.symbol.Symbol.TheVariants as wait
use Rattle.expr_grammar.specs.declared.symbol.Action.TheVariants as act
use Rattle.expr_grammar.specs.declared.words.TypeUse.{TypeUse}
use Rattle.expr_grammar.specs.declared.words.TypeUse.TheVariants.{Added}
use Rattle.expr_grammar.specs.declared.words.Verb.{Verb}
use Rattle.expr_grammar.specs.Scopes.{Scope}
use Rattle.expr_grammar.specs.Machine.{take, may_begin, behind_verb, begins_verb, verb_of, value_place, kind_at, takes_value, takes_no_more, part_places, joined_part, type_left, ids}
use Rattle.expr_grammar.proofs.ReadRefs.{when_inv, map_inv, kept_inv}

module _ (s : Scope) (limit : ℕ) where
  pub record Begins (t : Token) (new : List Symbol) : Type 0 where
    pub name : List ℕ
    pub verb : Verb
    pub token : t ≡ word name
    pub known : verb_of name ≡ Some verb
    pub may : may_begin s verb ≡ true
    pub leaves : behind_verb verb ≡ new

  pub verb_inv : (t : Token) (new : List Symbol) → take s limit wait.Verb t ≡ Some new → Begins t new
  unfolding take
  verb_inv (numeral n) new h = absurd cc
  verb_inv (sign g) new h = absurd cc
  verb_inv bad new h = absurd cc
  verb_inv (word name) new h = by (verb_of name) refl h where
    by : (o : Option Verb) → verb_of name ≡ o → begins_verb s o ≡ Some new → Begins (word name) new
    by None e h = absurd cc
    by (Some v) e h = let w = when_inv (may_begin s v) (behind_verb v) new h in record { name = name; verb = v; token = refl; known = e; may = w.0; leaves = w.1 }

  pub new_inv : (t : Token) (new : List Symbol) → take s limit wait.New t ≡ Some new → (name : List ℕ) × (t ≡ word name) × (s.is_new name ≡ true) × (wait.Do (act.New name) ∷ [] ≡ new)
  unfolding take
  new_inv (numeral n) new h = absurd cc
  new_inv (sign g) new h = absurd cc
  new_inv bad new h = absurd cc
  new_inv (word name) new h = let w = when_inv (s.is_new name) _ new h in (name, refl, w.0, w.1)

  pub from_inv : (t : Token) (new : List Symbol) → take s limit wait.From t ≡ Some new → (name : List ℕ) × (t ≡ word name) × (same_name name (codes "from") ≡ true) × ([] ≡ new)
  unfolding take
  from_inv (numeral n) new h = absurd cc
  from_inv (sign g) new h = absurd cc
  from_inv bad new h = absurd cc
  from_inv (word name) new h = let w = when_inv (same_name name (codes "from")) _ new h in (name, refl, w.0, w.1)

  pub with_inv : (t : Token) (new : List Symbol) → take s limit wait.With t ≡ Some new
      → (name : List ℕ) × (t ≡ word name) × (same_name name (codes "with") ≡ true) × (s.has_type Added [] ≡ true) × (wait.Parts [] ∷ [] ≡ new)
  unfolding take
  with_inv (numeral n) new h = absurd cc
  with_inv (sign g) new h = absurd cc
  with_inv bad new h = absurd cc
  with_inv (word name) new h =
      let w = when_inv (same_name name (codes "with") && s.has_type Added []) _ new h in
      let both = and_parts (same_name name (codes "with")) (s.has_type Added []) w.0 in
      (name, refl, both.0, both.1, w.1)

  pub part_inv : (role : TypeUse) (t : Token) (new : List Symbol) → take s limit (wait.Part role) t ≡ Some new
      → (name : List ℕ) × (ty : TypeId) × (t ≡ word name) × (s.find name ≡ Some ty) × (s.allows role ty ≡ true) × (part_places s ty ≡ new)
  unfolding take
  part_inv role (numeral n) new h = absurd cc
  part_inv role (sign g) new h = absurd cc
  part_inv role bad new h = absurd cc
  part_inv role (word name) new h =
      let m = map_inv (part_places s) _ new h in
      let k = kept_inv (s.allows role) (s.find name) m.0 m.1 in
      (name, m.0, refl, k.0, k.1, m.2)

  pub joined_inv : (used : List ℕ) (t : Token) (new : List Symbol) → take s limit (wait.Parts used) t ≡ Some new
      → (name : List ℕ) × (ty : TypeId) × (t ≡ word name) × (s.find name ≡ Some ty) × (s.allows Added ty ≡ true) × (s.holds (ids used) ty ≡ false) × (joined_part s used ty ≡ new)
  unfolding take
  joined_inv used (numeral n) new h = absurd cc
  joined_inv used (sign g) new h = absurd cc
  joined_inv used bad new h = absurd cc
  joined_inv used (word name) new h =
      let m = map_inv (joined_part s used) (type_left s used name) new h in
      let k = kept_inv (λ ty. s.allows Added ty && not (s.holds (ids used) ty)) (s.find name) m.0 m.1 in
      let both = and_parts (s.allows Added m.0) (not (s.holds (ids used) m.0)) k.1 in
      (name, m.0, refl, k.0, both.0, not-true _ both.1, m.2)

  pub comma_of_parts_inv : (used : List ℕ) (t : Token) (new : List Symbol) → take s limit (wait.MoreParts used) t ≡ Some new
      → (t ≡ sign Comma) × (s.has_type Added (ids used) ≡ true) × (wait.Parts used ∷ [] ≡ new)
  unfolding take
  comma_of_parts_inv used (word name) new h = absurd cc
  comma_of_parts_inv used (numeral n) new h = absurd cc
  comma_of_parts_inv used bad new h = absurd cc
  comma_of_parts_inv used (sign Comma) new h = let w = when_inv (s.has_type Added (ids used)) _ new h in (refl, w.0, w.1)
  comma_of_parts_inv used (sign g) new h = absurd cc

  abbrev pub ValuePlace : TypeId → ℕ → List Symbol → Type 0
  ValuePlace ty at new = (k : Bool) × (kind_at (s.refs ty) at ≡ Some k) × (value_place true k ∷ wait.Do act.Value ∷ wait.MoreValues ty (at + 1) ∷ [] ≡ new)

  value_inv : (ty : TypeId) (at : ℕ) (new : List Symbol) → takes_value ty at (kind_at (s.refs ty) at) ≡ Some new → ValuePlace ty at new
  value_inv ty at new h = let m = map_inv (λ k. value_place true k ∷ wait.Do act.Value ∷ wait.MoreValues ty (at + 1) ∷ []) (kind_at (s.refs ty) at) new h in (m.0, m.1, m.2)

  pub first_value_inv : (ty : TypeId) (t : Token) (new : List Symbol) → take s limit (wait.Values ty) t ≡ Some new → (t ≡ sign Open) × ValuePlace ty 0 new
  unfolding take
  first_value_inv ty (word name) new h = absurd cc
  first_value_inv ty (numeral n) new h = absurd cc
  first_value_inv ty bad new h = absurd cc
  first_value_inv ty (sign Open) new h = (refl, value_inv ty 0 new h)
  first_value_inv ty (sign g) new h = absurd cc

  no_more_inv : (o : Option Bool) (new : List Symbol) → takes_no_more o ≡ Some new → (o ≡ None) × ([] ≡ new)
  no_more_inv None new h = (refl, cc)
  no_more_inv (Some k) new h = absurd cc

  pub more_values_inv : (ty : TypeId) (at : ℕ) (t : Token) (new : List Symbol) → take s limit (wait.MoreValues ty at) t ≡ Some new
      → ((t ≡ sign Comma) × ValuePlace ty at new) ⊎ ((t ≡ sign Close) × (kind_at (s.refs ty) at ≡ None) × ([] ≡ new))
  unfolding take
  more_values_inv ty at (word name) new h = absurd cc
  more_values_inv ty at (numeral n) new h = absurd cc
  more_values_inv ty at bad new h = absurd cc
  more_values_inv ty at (sign Comma) new h = inl (refl, value_inv ty at new h)
  more_values_inv ty at (sign Close) new h = let w = no_more_inv (kind_at (s.refs ty) at) new h in inr (refl, w.0, w.1)
  more_values_inv ty at (sign g) new h = absurd cc
