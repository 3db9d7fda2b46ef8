-- What the machine reads as a command is one that fits.
use Rattle.std.proofs.Common.{ℕ, zero, suc, ◌≡◌, ◌<◌, ◌≤◌, ◌+◌, List, [], ◌∷◌, ◌++◌, ⊎_elim, Bool, true, false, cond, drop, length, Option, Some, None, refl, sym, ap, ◌∙◌, subst, arith}
use Rattle.std.proofs.lemmas.Bool.{false≢true, eqb-true, and_parts}
use Rattle.std.specs.Prelude.{codes}
use Rattle.ent_types.specs.Types.{same_name}
use Rattle.ent_types.specs.TypeSets.{with_type}
use Rattle.ent_types.specs.declared.entity.TypeId.{TypeId}
use Rattle.expr_tokens.specs.Tokens.{Token, word, sign}
use Rattle.expr_tokens.specs.declared.sign.Sign.TheVariants.{Open, Close, Comma}
use Rattle.expr_grammar.specs.declared.symbol.Symbol.{Symbol}
use Rattle.expr_grammar.specs.declared.symbol.Symbol.TheVariants as wait
use Rattle.expr_grammar.specs.declared.symbol.Action.TheVariants as act
use Rattle.expr_grammar.specs.declared.symbol.Built.{Built}
use Rattle.expr_grammar.specs.declared.words.TypeUse.{TypeUse}
use Rattle.expr_grammar.specs.declared.words.TypeUse.TheVariants.{Added}
use Rattle.expr_grammar.specs.declared.words.Verb.{Verb}
use Rattle.expr_grammar.specs.declared.words.Verb.TheVariants as verbs
use Rattle.expr_grammar.specs.declared.words.Change.TheVariants as changes
use Rattle.expr_grammar.specs.declared.words.Turn.TheVariants as turns
use Rattle.expr_grammar.specs.CommandScopes.{ServesCommands}
use Rattle.expr_grammar.specs.Fitting.{FitsRef, FitsValue, FitsValues, FitsPart, FitsParts, FitsCommand, part_use, turn_use}
use Rattle.expr_grammar.specs.Grammar.{Ref, Value, int, ref, Part, Command, create, destroy, change, turn, instantiate, spell_ref, spell_value, spell_more_values, spell_values, spell_part, spell_more_parts, spell_parts, spell_command}
use Rattle.expr_grammar.specs.Scopes.{Scope, IsLawful}
use Rattle.expr_grammar.specs.Machine.{may_end, run, behind_verb, verb_of, value_place, first_of, kind_at, values_of, part_places}
use Rattle.expr_grammar.proofs.CommandTakes.{drop_next, first_split, verb_word, joined_append}
use Rattle.expr_grammar.proofs.CommandSteps.{ValuePlace, verb_inv, new_inv, from_inv, with_inv, part_inv, joined_inv, comma_of_parts_inv, first_value_inv, more_values_inv}
use Rattle.expr_grammar.proofs.CommandBuilt.{SameTypes, same_more}
use Rattle.expr_grammar.proofs.ReadRefs.{Taken, way, must_take, left, Read, read_ref, read_type}
use Rattle.expr_grammar.proofs.ReadExprs.{read_level}
use Rattle.expr_grammar.proofs.Runs.{run_do}
use Rattle.expr_grammar.proofs.Whole.{nothing_left}

pub name_is : (a b : List ℕ) → same_name a b ≡ true → a ≡ b
name_is [] [] h = refl
name_is [] (y ∷ ys) h = absurd (false≢true h)
name_is (x ∷ xs) [] h = absurd (false≢true h)
name_is (x ∷ xs) (y ∷ ys) h = let w = and_parts _ _ h in let first = eqb-true x y w.0 in let rest = name_is xs ys w.1 in λ i. first i ∷ rest i

verb_or : (name w : List ℕ) (v u : Verb) (rest : Option Verb) → w ≡ verb_word v → (rest ≡ Some u → name ≡ verb_word u) → cond (same_name name w) (Some v) rest ≡ Some u → name ≡ verb_word u
verb_or name w v u rest is later h = by (same_name name w) refl h where
  by : (b : Bool) → same_name name w ≡ b → cond b (Some v) rest ≡ Some u → name ≡ verb_word u
  by true e k = let same : v ≡ u = cc in name_is name w e ∙ is ∙ ap verb_word same
  by false e k = later k

pub verb_named : (name : List ℕ) (v : Verb) → verb_of name ≡ Some v → name ≡ verb_word v
verb_named name v h =
    verb_or name (codes "create") verbs.Create v _ refl
    (verb_or name (codes "destroy") verbs.Destroy v _ refl
    (verb_or name (codes "add") (verbs.Change changes.Add) v _ refl
    (verb_or name (codes "set") (verbs.Change changes.Set) v _ refl
    (verb_or name (codes "set_shared") (verbs.Change changes.SetShared) v _ refl
    (verb_or name (codes "remove") (verbs.Turn turns.Remove) v _ refl
    (verb_or name (codes "enable") (verbs.Turn turns.Enable) v _ refl
    (verb_or name (codes "disable") (verbs.Turn turns.Disable) v _ refl
    (verb_or name (codes "instantiate") verbs.Instantiate v None refl (λ e. absurd cc)))))))))
    h

first_none : (xs : List Bool) → first_of xs ≡ None → xs ≡ []
first_none [] e = refl
first_none (x ∷ xs) e = absurd cc

never_verb : may_end wait.Verb ≡ false
unfolding may_end
never_verb = refl

never_new : may_end wait.New ≡ false
unfolding may_end
never_new = refl

never_from : may_end wait.From ≡ false
unfolding may_end
never_from = refl

never_part : (role : TypeUse) → may_end (wait.Part role) ≡ false
unfolding may_end
never_part role = refl

never_parts : (used : List ℕ) → may_end (wait.Parts used) ≡ false
unfolding may_end
never_parts used = refl

never_values : (ty : TypeId) → may_end (wait.Values ty) ≡ false
unfolding may_end
never_values ty = refl

never_more_values : (ty : TypeId) (at : ℕ) → may_end (wait.MoreValues ty at) ≡ false
unfolding may_end
never_more_values ty at = refl

module _ (s : Scope) (limit : ℕ) where
  abbrev ReadValue : Bool → List Symbol → List Token → List Built → Type 0
  ReadValue k = Read s limit {Tree = Value} (FitsValue s limit true k) spell_value

  read_value : (k : Bool) (below : List Symbol) (bs : List Built) (ts : List Token) (ws : List Built) → run s limit (value_place true k ∷ below) bs ts ≡ Some ws → ReadValue k below ts ws
  read_value true below bs ts ws h =
      let r = read_ref s limit true below bs ts ws h in
      record { tree = ref r.tree; fits = r.fits; rest = r.rest; tokens = r.tokens; shorter = r.shorter; built = r.built; goes_on = r.goes_on }
  read_value false below bs ts ws h =
      let r = read_level s limit 5 0 below bs ts ws h in
      record { tree = int r.tree; fits = r.fits; rest = r.rest; tokens = r.tokens; shorter = r.shorter; built = r.built; goes_on = r.goes_on }

  -- values that were read, and what follows them
  record ReadValues (kinds : List Bool) (spelled : List Value → List Token → List Token) (below : List Symbol) (ts : List Token) (ws : List Built) : Type 0 where
    values : List Value
    fits : FitsValues s limit kinds values
    rest : List Token
    tokens : ts ≡ spelled values rest
    shorter : length rest ≤ length ts
    built : List Built
    goes_on : run s limit below built rest ≡ Some ws

  read_more_values : (ks : List Bool) (ty : TypeId) (at : ℕ) (below : List Symbol) (bs : List Built) (ts : List Token) (ws : List Built) → drop at (s.refs ty) ≡ ks
      → run s limit (wait.MoreValues ty at ∷ below) bs ts ≡ Some ws → ReadValues ks (λ vs us. spell_more_values vs (sign Close ∷ us)) below ts ws
  read_more_values [] ty at below bs ts ws e h =
      let t = must_take s limit (wait.MoreValues ty at) below bs ts ws (never_more_values ty at) h in
      let none : kind_at (s.refs ty) at ≡ None = ap first_of e in
      ⊎_elim (λ b. absurd (let some = b.1.1 in cc))
      (λ b. let whole : ts ≡ sign Close ∷ t.rest = t.tokens ∙ ap (λ x. x ∷ t.rest) b.0 in record {
        values = [];
        fits = tt;
        rest = t.rest;
        tokens = whole;
        shorter = omega (arith, ap length whole);
        built = bs;
        goes_on = left s limit below bs t.rest ws [] t.new b.2 t.goes_on;
      })
      (more_values_inv s limit ty at t.token t.new t.takes)
  read_more_values (k ∷ ks) ty at below bs ts ws e h =
      let t = must_take s limit (wait.MoreValues ty at) below bs ts ws (never_more_values ty at) h in
      let some : kind_at (s.refs ty) at ≡ Some k = ap first_of e in
      ⊎_elim (λ b. next t b (λ bs' ts'. read_more_values ks ty (at + 1) below bs' ts' ws (drop_next at (s.refs ty) k ks e)))
      (λ b. absurd (let none = b.1 in cc))
      (more_values_inv s limit ty at t.token t.new t.takes) where
        next : (t : Taken s limit (wait.MoreValues ty at) below bs ts ws) → (t.token ≡ sign Comma) × ValuePlace s limit ty at t.new
            → ((bs' : List Built) (ts' : List Token) → run s limit (wait.MoreValues ty (at + 1) ∷ below) bs' ts' ≡ Some ws → ReadValues ks (λ vs us. spell_more_values vs (sign Close ∷ us)) below ts' ws)
            → ReadValues (k ∷ ks) (λ vs us. spell_more_values vs (sign Close ∷ us)) below ts ws
        next t b later =
            let whole : ts ≡ sign Comma ∷ t.rest = t.tokens ∙ ap (λ x. x ∷ t.rest) b.0 in
            let some : kind_at (s.refs ty) at ≡ Some k = ap first_of e in
            let there = b.1.1 in
            let same : b.1.0 ≡ k = cc in
            let v = read_value b.1.0 (wait.Do act.Value ∷ wait.MoreValues ty (at + 1) ∷ below) bs t.rest ws (left s limit below bs t.rest ws _ t.new b.1.2 t.goes_on) in
            let m = later _ v.rest (sym (run_do s limit act.Value (wait.MoreValues ty (at + 1) ∷ below) v.built v.rest) ∙ v.goes_on) in
            record {
              values = v.tree ∷ m.values;
              fits = (subst (λ j. FitsValue s limit true j v.tree) same v.fits, m.fits);
              rest = m.rest;
              tokens = whole ∙ ap (λ x. sign Comma ∷ x) (v.tokens ∙ ap (λ x. spell_value v.tree x) m.tokens);
              shorter = omega (arith, v.shorter, m.shorter, ap length whole);
              built = m.built;
              goes_on = m.goes_on;
            }

  read_values : (ty : TypeId) (o : Option Bool) (below : List Symbol) (bs : List Built) (ts : List Token) (ws : List Built) → kind_at (s.refs ty) 0 ≡ o
      → run s limit (values_of ty o ++ below) bs ts ≡ Some ws → ReadValues (s.refs ty) spell_values below ts ws
  read_values ty None below bs ts ws e h = record {
    values = [];
    fits = subst (λ ks. FitsValues s limit ks []) (sym (first_none (s.refs ty) e)) tt;
    rest = ts;
    tokens = refl;
    shorter = omega arith;
    built = bs;
    goes_on = h;
  }
  read_values ty (Some j) below bs ts ws e h =
      let t = must_take s limit (wait.Values ty) below bs ts ws (never_values ty) h in
      let b = first_value_inv s limit ty t.token t.new t.takes in
      let k = b.1.0 in
      let r = first_split (s.refs ty) k b.1.1 in
      let whole : ts ≡ sign Open ∷ t.rest = t.tokens ∙ ap (λ x. x ∷ t.rest) b.0 in
      let v = read_value k (wait.Do act.Value ∷ wait.MoreValues ty 1 ∷ below) bs t.rest ws (left s limit below bs t.rest ws _ t.new b.1.2 t.goes_on) in
      let m = read_more_values r.0 ty 1 below _ v.rest ws (drop_next 0 (s.refs ty) k r.0 r.1) (sym (run_do s limit act.Value (wait.MoreValues ty 1 ∷ below) v.built v.rest) ∙ v.goes_on) in
      record {
        values = v.tree ∷ m.values;
        fits = subst (λ ks. FitsValues s limit ks (v.tree ∷ m.values)) (sym r.1) (v.fits, m.fits);
        rest = m.rest;
        tokens = whole ∙ ap (λ x. sign Open ∷ x) (v.tokens ∙ ap (λ x. spell_value v.tree x) m.tokens);
        shorter = omega (arith, v.shorter, m.shorter, ap length whole);
        built = m.built;
        goes_on = m.goes_on;
      }

  -- a part that was read
  record ReadPart (role : TypeUse) (below : TypeId → List Symbol) (ts : List Token) (ws : List Built) : Type 0 where
    part : Part
    fits : FitsPart s limit role part
    rest : List Token
    tokens : ts ≡ spell_part part rest
    shorter : length rest < length ts
    built : List Built
    goes_on : run s limit (below part.ty) built rest ≡ Some ws

  part_from : (role : TypeUse) (name : List ℕ) (ty : TypeId) (below : TypeId → List Symbol) (bs : List Built) (ts : List Token) (ws : List Built) → s.find name ≡ Some ty → s.allows role ty ≡ true
      → run s limit (part_places s ty ++ below ty) bs ts ≡ Some ws → (p : ReadPart role below (word name ∷ ts) ws) × (p.part.ty ≡ ty)
  part_from role name ty below bs ts ws known may h =
      let v = read_values ty (kind_at (s.refs ty) 0) (below ty) _ ts ws refl (sym (run_do s limit (act.Part ty) (values_of ty (kind_at (s.refs ty) 0) ++ below ty) bs ts) ∙ h) in (
        record {
          part = record { name = name; ty = ty; values = v.values };
          fits = ((known, may), v.fits);
          rest = v.rest;
          tokens = ap (λ x. word name ∷ x) v.tokens;
          shorter = omega (arith, v.shorter);
          built = v.built;
          goes_on = v.goes_on;
        },
        refl,
      )

  moved_part : (role : TypeUse) (below : TypeId → List Symbol) (ts us : List Token) (ws : List Built) → ts ≡ us → ReadPart role below us ws → ReadPart role below ts ws
  moved_part role below ts us ws e p = subst (λ k. ReadPart role below k ws) (sym e) p

  read_part : (role : TypeUse) (below : List Symbol) (bs : List Built) (ts : List Token) (ws : List Built) → run s limit (wait.Part role ∷ below) bs ts ≡ Some ws → ReadPart role (λ ty. below) ts ws
  read_part role below bs ts ws h =
      let t = must_take s limit (wait.Part role) below bs ts ws (never_part role) h in
      let b = part_inv s limit role t.token t.new t.takes in
      moved_part role (λ ty. below) ts (word b.0 ∷ t.rest) ws (t.tokens ∙ ap (λ x. x ∷ t.rest) b.2)
      (part_from role b.0 b.1 (λ ty. below) bs t.rest ws b.3 b.4 (left s limit below bs t.rest ws _ t.new b.5 t.goes_on)).0

  record ReadJoined (set : List ℕ) (used : List TypeId) (below : List Symbol) (ts : List Token) (ws : List Built) : Type 0 where
    one : ReadPart Added (λ ty. wait.MoreParts (with_type set ty.0) ∷ below) ts ws
    new : s.holds used one.part.ty ≡ false

  read_joined : (set : List ℕ) (used : List TypeId) (below : List Symbol) (bs : List Built) (ts : List Token) (ws : List Built) → SameTypes s set used
      → run s limit (wait.Parts set ∷ below) bs ts ≡ Some ws → ReadJoined set used below ts ws
  read_joined set used below bs ts ws same h =
      let t = must_take s limit (wait.Parts set) below bs ts ws (never_parts set) h in
      let b = joined_inv s limit set t.token t.new t.takes in
      let on = subst (λ l. run s limit l bs t.rest ≡ Some ws) (joined_append s set b.1 below) (left s limit below bs t.rest ws _ t.new b.6 t.goes_on) in
      let q = part_from Added b.0 b.1 (λ ty. wait.Do act.Join ∷ wait.MoreParts (with_type set ty.0) ∷ below) bs t.rest ws b.3 b.4 on in
      let p = q.0 in
      let whole : ts ≡ word b.0 ∷ t.rest = t.tokens ∙ ap (λ x. x ∷ t.rest) b.2 in
      record {
        one = record {
          part = p.part;
          fits = p.fits;
          rest = p.rest;
          tokens = whole ∙ p.tokens;
          shorter = omega (arith, p.shorter, ap length whole);
          built = _;
          goes_on = sym (run_do s limit act.Join (wait.MoreParts (with_type set p.part.ty.0) ∷ below) p.built p.rest) ∙ p.goes_on;
        };
        new = ap (λ u. s.holds used u) q.1 ∙ sym (same b.1) ∙ b.5;
      }

module _ (s : Scope) (lawful : IsLawful s) (serves : ServesCommands s) (limit : ℕ) where
  -- the end of a creation
  creation_ends : (bs : List Built) (ts : List Token) (ws : List Built) → run s limit (wait.Do act.Create ∷ []) bs ts ≡ Some ws → ts ≡ []
  creation_ends bs ts ws h = nothing_left s lawful limit _ ts ws (sym (run_do s limit act.Create [] bs ts) ∙ h)

  record ReadParts (used : List TypeId) (spelled : List Part → List Token → List Token) (ts : List Token) : Type 0 where
    parts : List Part
    fits : FitsParts s limit used parts
    tokens : ts ≡ spelled parts []

  read_more_parts : (n : ℕ) (set : List ℕ) (used : List TypeId) (bs : List Built) (ts : List Token) (ws : List Built) → length ts < n → SameTypes s set used
      → run s limit (wait.MoreParts set ∷ wait.Do act.Create ∷ []) bs ts ≡ Some ws → ReadParts used spell_more_parts ts
  read_more_parts zero set used bs ts ws short same h = absurd (omega arith)
  read_more_parts (suc n) set used bs ts ws short same h =
      ⊎_elim (λ t. one t (λ ty bs' ts' few. read_more_parts n (with_type set ty.0) (ty ∷ used) bs' ts' ws few (same_more s serves set used ty same)))
      (λ e. record { parts = []; fits = tt; tokens = creation_ends _ ts ws e.goes_on })
      (way s limit (wait.MoreParts set) (wait.Do act.Create ∷ []) bs ts ws h) where
        one : Taken s limit (wait.MoreParts set) (wait.Do act.Create ∷ []) bs ts ws
            → ((ty : TypeId) (bs' : List Built) (ts' : List Token) → length ts' < n → run s limit (wait.MoreParts (with_type set ty.0) ∷ wait.Do act.Create ∷ []) bs' ts' ≡ Some ws → ReadParts (ty ∷ used) spell_more_parts ts')
            → ReadParts used spell_more_parts ts
        one t later =
            let b = comma_of_parts_inv s limit set t.token t.new t.takes in
            let whole : ts ≡ sign Comma ∷ t.rest = t.tokens ∙ ap (λ x. x ∷ t.rest) b.0 in
            let j = read_joined s limit set used (wait.Do act.Create ∷ []) bs t.rest ws same (left s limit _ bs t.rest ws _ t.new b.2 t.goes_on) in
            let m = later j.one.part.ty j.one.built j.one.rest (omega (arith, j.one.shorter, ap length whole)) j.one.goes_on in
            record {
              parts = j.one.part ∷ m.parts;
              fits = (j.one.fits, j.new, m.fits);
              tokens = whole ∙ ap (λ x. sign Comma ∷ x) (j.one.tokens ∙ ap (λ x. spell_part j.one.part x) m.tokens);
            }

  read_parts : (bs : List Built) (ts : List Token) (ws : List Built) → run s limit (wait.With ∷ wait.Do act.Create ∷ []) bs ts ≡ Some ws → ReadParts [] spell_parts ts
  read_parts bs ts ws h =
      ⊎_elim one (λ e. record { parts = []; fits = tt; tokens = creation_ends _ ts ws e.goes_on })
      (way s limit wait.With (wait.Do act.Create ∷ []) bs ts ws h) where
        one : Taken s limit wait.With (wait.Do act.Create ∷ []) bs ts ws → ReadParts [] spell_parts ts
        one t =
            let b = with_inv s limit t.token t.new t.takes in
            let whole : ts ≡ word (codes "with") ∷ t.rest = t.tokens ∙ ap (λ x. x ∷ t.rest) (b.1 ∙ ap (λ w. word w) (name_is b.0 (codes "with") b.2)) in
            let j = read_joined s limit [] [] (wait.Do act.Create ∷ []) bs t.rest ws (λ u. refl) (left s limit _ bs t.rest ws _ t.new b.4 t.goes_on) in
            let m = read_more_parts (suc (length j.one.rest)) (with_type [] j.one.part.ty.0) (j.one.part.ty ∷ []) j.one.built j.one.rest ws (omega arith) (same_more s serves [] [] j.one.part.ty (λ u. refl)) j.one.goes_on in
            record {
              parts = j.one.part ∷ m.parts;
              fits = (j.one.fits, j.new, m.fits);
              tokens = whole ∙ ap (λ x. word (codes "with") ∷ x) (j.one.tokens ∙ ap (λ x. spell_part j.one.part x) m.tokens);
            }

  -- a name to be made
  record ReadNew (below : List Symbol) (bs : List Built) (ts : List Token) (ws : List Built) : Type 0 where
    name : List ℕ
    new : s.is_new name ≡ true
    rest : List Token
    tokens : ts ≡ word name ∷ rest
    built : List Built
    goes_on : run s limit below built rest ≡ Some ws

  read_new : (below : List Symbol) (bs : List Built) (ts : List Token) (ws : List Built) → run s limit (wait.New ∷ below) bs ts ≡ Some ws → ReadNew below bs ts ws
  read_new below bs ts ws h =
      let t = must_take s limit wait.New below bs ts ws never_new h in
      let b = new_inv s limit t.token t.new t.takes in
      record {
        name = b.0;
        new = b.2;
        rest = t.rest;
        tokens = t.tokens ∙ ap (λ x. x ∷ t.rest) b.1;
        built = _;
        goes_on = sym (run_do s limit (act.New b.0) below bs t.rest) ∙ left s limit below bs t.rest ws _ t.new b.3 t.goes_on;
      }

  read_from : (below : List Symbol) (bs : List Built) (ts : List Token) (ws : List Built) → run s limit (wait.From ∷ below) bs ts ≡ Some ws
      → (rest : List Token) × (ts ≡ word (codes "from") ∷ rest) × (run s limit below bs rest ≡ Some ws)
  read_from below bs ts ws h =
      let t = must_take s limit wait.From below bs ts ws never_from h in
      let b = from_inv s limit t.token t.new t.takes in
      (t.rest, t.tokens ∙ ap (λ x. x ∷ t.rest) (b.1 ∙ ap (λ w. word w) (name_is b.0 (codes "from") b.2)), left s limit below bs t.rest ws [] t.new b.3 t.goes_on)

  -- a reference at the end
  read_last_ref : (a : _) (bs : List Built) (ts : List Token) (ws : List Built) → run s limit (wait.Ref true ∷ wait.Do a ∷ []) bs ts ≡ Some ws → (r : Ref) × FitsRef s true r × (ts ≡ spell_ref r [])
  read_last_ref a bs ts ws h =
      let r = read_ref s limit true (wait.Do a ∷ []) bs ts ws h in
      let none = nothing_left s lawful limit _ r.rest ws (sym (run_do s limit a [] r.built r.rest) ∙ r.goes_on) in
      (r.tree, r.fits, r.tokens ∙ ap (λ x. spell_ref r.tree x) none)

  -- the command that was read
  pub record CommandRead (ts : List Token) : Type 0 where
    pub command : Command
    pub fits : FitsCommand s limit command
    pub tokens : spell_command command ≡ ts

  read_behind : (v : Verb) (bs : List Built) (ts : List Token) (ws : List Built) → run s limit (behind_verb v ++ []) bs ts ≡ Some ws → CommandRead (word (verb_word v) ∷ ts)
  read_behind verbs.Create bs ts ws h =
      let n = read_new (wait.Do act.NoParts ∷ wait.With ∷ wait.Do act.Create ∷ []) bs ts ws h in
      let p = read_parts _ n.rest ws (sym (run_do s limit act.NoParts (wait.With ∷ wait.Do act.Create ∷ []) n.built n.rest) ∙ n.goes_on) in
      record {
        command = create n.name p.parts;
        fits = (n.new, p.fits);
        tokens = sym (ap (λ x. word (codes "create") ∷ x) (n.tokens ∙ ap (λ x. word n.name ∷ x) p.tokens));
      }
  read_behind verbs.Destroy bs ts ws h =
      let r = read_last_ref act.Destroy bs ts ws h in
      record { command = destroy r.0; fits = r.1; tokens = sym (ap (λ x. word (codes "destroy") ∷ x) r.2) }
  read_behind (verbs.Change c) bs ts ws h =
      let r = read_ref s limit true (wait.Part (part_use c) ∷ wait.Do (act.Change c) ∷ []) bs ts ws h in
      let p = read_part s limit (part_use c) (wait.Do (act.Change c) ∷ []) r.built r.rest ws r.goes_on in
      let none = nothing_left s lawful limit _ p.rest ws (sym (run_do s limit (act.Change c) [] p.built p.rest) ∙ p.goes_on) in
      record {
        command = change c r.tree p.part;
        fits = (r.fits, p.fits);
        tokens = sym (ap (λ x. word (verb_word (verbs.Change c)) ∷ x) (r.tokens ∙ ap (λ x. spell_ref r.tree x) (p.tokens ∙ ap (λ x. spell_part p.part x) none)));
      }
  read_behind (verbs.Turn t) bs ts ws h =
      let r = read_ref s limit true (wait.Type (turn_use t) ∷ wait.Do (act.Turn t) ∷ []) bs ts ws h in
      let p = read_type s limit (turn_use t) (wait.Do (act.Turn t) ∷ []) r.built r.rest ws r.goes_on in
      let typed = sym (run_do s limit (act.Type p.ty) (wait.Do (act.Turn t) ∷ []) r.built p.rest) ∙ p.goes_on in
      let none = nothing_left s lawful limit _ p.rest ws (sym (run_do s limit (act.Turn t) [] _ p.rest) ∙ typed) in
      record {
        command = turn t r.tree p.name p.ty;
        fits = (r.fits, (p.known, p.passes));
        tokens = sym (ap (λ x. word (verb_word (verbs.Turn t)) ∷ x) (r.tokens ∙ ap (λ x. spell_ref r.tree x) (p.tokens ∙ ap (λ x. word p.name ∷ x) none)));
      }
  read_behind verbs.Instantiate bs ts ws h =
      let n = read_new (wait.From ∷ wait.Ref true ∷ wait.Do act.Instantiate ∷ []) bs ts ws h in
      let f = read_from (wait.Ref true ∷ wait.Do act.Instantiate ∷ []) n.built n.rest ws n.goes_on in
      let r = read_last_ref act.Instantiate n.built f.0 ws f.2 in
      record {
        command = instantiate n.name r.0;
        fits = (n.new, r.1);
        tokens = sym (ap (λ x. word (codes "instantiate") ∷ x) (n.tokens ∙ ap (λ x. word n.name ∷ x) (f.1 ∙ ap (λ x. word (codes "from") ∷ x) r.2)));
      }

  pub command_read : (ts : List Token) (ws : List Built) → run s limit (wait.Verb ∷ []) [] ts ≡ Some ws → CommandRead ts
  command_read ts ws h =
      let t = must_take s limit wait.Verb [] [] ts ws never_verb h in
      let b = verb_inv s limit t.token t.new t.takes in
      let whole : ts ≡ word (verb_word b.verb) ∷ t.rest = t.tokens ∙ ap (λ x. x ∷ t.rest) (b.token ∙ ap (λ w. word w) (verb_named b.name b.verb b.known)) in
      subst (λ k. CommandRead k) (sym whole) (read_behind b.verb [] t.rest ws (left s limit [] [] t.rest ws _ t.new b.leaves t.goes_on))
