-- Each step of the machine leaves what can be completed.
use Rattle.std.proofs.Common.{ℕ, zero, suc, ◌≡◌, List, [], ◌∷◌, ◌++◌, ◌+◌, ⊎_elim, Bool, true, false, cond, Option, Some, None, refl, sym, ap, subst, append_assoc}
use Rattle.ent_types.specs.declared.entity.TypeId.{TypeId}
use Rattle.expr_tokens.specs.Tokens.{Token, word, number as numeral, sign, bad}
use Rattle.expr_tokens.specs.declared.sign.Sign.TheVariants.{Close, Comma, Dot, Assign}
use Rattle.expr_grammar.specs.declared.symbol.Symbol.{Symbol}
use Rattle.expr_grammar.specs.declared.symbol.Symbol.TheVariants as wait
use Rattle.expr_grammar.specs.declared.symbol.Action.TheVariants as act
use Rattle.expr_grammar.specs.declared.symbol.Built.{Built}
use Rattle.expr_grammar.specs.declared.words.Call.{Call}
use Rattle.expr_grammar.specs.declared.words.Call.TheVariants as calls
use Rattle.expr_grammar.specs.declared.words.FieldUse.{FieldUse}
use Rattle.expr_grammar.specs.declared.words.FieldUse.TheVariants.{Number as NumberField, Entity as EntityField, Looked, Assigned}
use Rattle.expr_grammar.specs.declared.words.TypeUse.{TypeUse}
use Rattle.expr_grammar.specs.declared.words.Verb.{Verb}
use Rattle.expr_grammar.specs.declared.words.Verb.TheVariants as verbs
use Rattle.expr_grammar.specs.CommandScopes.{ServesCommands}
use Rattle.expr_grammar.specs.Fitting.{associates, part_use, turn_use}
use Rattle.expr_grammar.specs.Scopes.{Scope, IsLawful}
use Rattle.expr_grammar.specs.Machine.{State, take, may_end, ended, settle, onward, tails, arguments, behind_field, value_place, kept, field_type, take_operand, behind_verb, may_begin, values_of, kind_at, part_places, joined_part}
use Rattle.expr_grammar.proofs.ReadRefs.{map_inv, kept_inv, ref_inv, colon_inv, version_inv, dot_inv}
use Rattle.expr_grammar.proofs.ReadExprs.{Begun, by_number, by_open, by_sign, by_name, begun, Followed, by_dot, by_call, followed, operated}
use Rattle.expr_grammar.proofs.CommandTakes.{joined_append}
use Rattle.expr_grammar.proofs.CommandSteps.{verb_inv, new_inv, from_inv, with_inv, part_inv, joined_inv, comma_of_parts_inv, first_value_inv, more_values_inv}
use Rattle.expr_grammar.proofs.Completions.{soft, Good, Ready, Needs, CanCall}

abbrev waits_of : State → List Symbol
waits_of st = st.waits

one_state : (a b : State) → Some a ≡ Some b → a ≡ b
one_state a b e = cc

module _ (s : Scope) (lawful : IsLawful s) (limit : ℕ) where
  Kept : List Symbol → Type 0
  Kept waits = Good s lawful limit waits

  closed_inv : (t : Token) (new : List Symbol) → take s limit wait.Close t ≡ Some new → [] ≡ new
  unfolding take
  closed_inv (word n) new h = absurd cc
  closed_inv (numeral n) new h = absurd cc
  closed_inv bad new h = absurd cc
  closed_inv (sign Close) new h = cc
  closed_inv (sign g) new h = absurd cc

  comma_inv : (t : Token) (new : List Symbol) → take s limit wait.Comma t ≡ Some new → [] ≡ new
  unfolding take
  comma_inv (word n) new h = absurd cc
  comma_inv (numeral n) new h = absurd cc
  comma_inv bad new h = absurd cc
  comma_inv (sign Comma) new h = cc
  comma_inv (sign g) new h = absurd cc

  only_dot_inv : (t : Token) (new : List Symbol) → take s limit wait.Dot t ≡ Some new → [] ≡ new
  unfolding take
  only_dot_inv (word n) new h = absurd cc
  only_dot_inv (numeral n) new h = absurd cc
  only_dot_inv bad new h = absurd cc
  only_dot_inv (sign Dot) new h = cc
  only_dot_inv (sign g) new h = absurd cc

  becomes_inv : (t : Token) (new : List Symbol) → take s limit wait.Becomes t ≡ Some new → [] ≡ new
  unfolding take
  becomes_inv (word n) new h = absurd cc
  becomes_inv (numeral n) new h = absurd cc
  becomes_inv bad new h = absurd cc
  becomes_inv (sign Assign) new h = cc
  becomes_inv (sign g) new h = absurd cc

  do_inv : (a : _) (t : Token) (new : List Symbol) → take s limit (wait.Do a) t ≡ Some new → ⊥
  unfolding take
  do_inv a (word n) new h = absurd cc
  do_inv a (numeral n) new h = absurd cc
  do_inv a bad new h = absurd cc
  do_inv a (sign g) new h = absurd cc

  field_inv : (ty : TypeId) (role : FieldUse) (t : Token) (new : List Symbol) → take s limit (wait.Field ty role) t ≡ Some new → (i : ℕ) × (behind_field s role ty i ≡ new)
  unfolding take
  field_inv ty role (sign g) new h = absurd cc
  field_inv ty role (numeral n) new h = absurd cc
  field_inv ty role bad new h = absurd cc
  field_inv ty role (word f) new h = let m = map_inv (behind_field s role ty) (s.field role ty f) new h in (m.0, m.2)

  type_field_inv : (role : FieldUse) (t : Token) (new : List Symbol) → take s limit (wait.TypeField role) t ≡ Some new → (ty : TypeId) × (s.has_field role ty ≡ true) × (wait.Dot ∷ wait.Field ty role ∷ [] ≡ new)
  unfolding take
  type_field_inv role (sign g) new h = absurd cc
  type_field_inv role (numeral n) new h = absurd cc
  type_field_inv role bad new h = absurd cc
  type_field_inv role (word f) new h =
      let m = map_inv (λ ty. wait.Dot ∷ wait.Field ty role ∷ []) (field_type s role f) new h in (m.0, (kept_inv (s.has_field role) (s.find f) m.0 m.1).1, m.2)

  type_inv : (role : TypeUse) (t : Token) (new : List Symbol) → take s limit (wait.Type role) t ≡ Some new → (ty : TypeId) × (wait.Do (act.Type ty) ∷ [] ≡ new)
  unfolding take
  type_inv role (sign g) new h = absurd cc
  type_inv role (numeral n) new h = absurd cc
  type_inv role bad new h = absurd cc
  type_inv role (word f) new h = let m = map_inv (λ ty. wait.Do (act.Type ty) ∷ []) (kept (s.allows role) (s.find f)) new h in (m.0, m.2)

  level_inv : (level d : ℕ) (t : Token) (new : List Symbol) → take s limit (wait.Level level d) t ≡ Some new → (begins : List Symbol) × (take_operand s limit d t ≡ Some begins) × (begins ++ tails level d ≡ new)
  unfolding take
  level_inv level d t new h = map_inv (λ x. x ++ tails level d) (take_operand s limit d t) new h

  moved : (below : List Symbol) (wanted new : List Symbol) → wanted ≡ new → Kept (wanted ++ below) → Kept (new ++ below)
  moved below wanted new e g = subst (λ w. Kept (w ++ below)) e g

  good_tails : (level d : ℕ) (below : List Symbol) → soft below ≡ true → Kept below → Kept (tails level d ++ below) × (soft (tails level d ++ below) ≡ true)
  unfolding Kept
  good_tails zero d below n g = (g, n)
  good_tails (suc level) d below n g =
      let r = good_tails level d (wait.Tail level d ∷ below) n (tt, n, g) in
      let same_list = sym (append_assoc (tails level d) (wait.Tail level d ∷ []) below) in
      (subst (λ w. Kept w) same_list r.0, subst (λ w. soft w ≡ true) same_list r.1)

  can_call : (name : List ℕ) (c : Call) → s.call name ≡ Some c → CanCall s lawful limit c
  can_call name (calls.Two op) h = tt
  can_call name calls.Pick h = tt
  can_call name calls.Get h = lawful.looked name h
  can_call name calls.Alive h = tt
  can_call name calls.Has h = lawful.asked name h
  can_call name calls.Same h = tt
  can_call name calls.On h = lawful.owned name h

  good_arguments : (c : Call) (d : ℕ) (below : List Symbol) → CanCall s lawful limit c → Kept below → Kept (arguments c d ++ below)
  unfolding Kept
  good_arguments (calls.Two op) d below can g = (tt, refl, (tt, tt, (tt, refl, (tt, tt, (tt, tt, g)))))
  good_arguments calls.Pick d below can g = (tt, refl, (tt, tt, (tt, refl, (tt, tt, (tt, refl, (tt, tt, (tt, tt, g)))))))
  good_arguments calls.Get d below can g = (tt, refl, (tt, tt, (can, refl, (tt, tt, (tt, tt, g)))))
  good_arguments calls.Alive d below can g = (tt, refl, (tt, tt, (tt, tt, g)))
  good_arguments calls.Has d below can g = (tt, refl, (tt, tt, (can, tt, (tt, tt, (tt, tt, g)))))
  good_arguments calls.Same d below can g = (tt, refl, (tt, tt, (tt, refl, (tt, tt, (tt, tt, g)))))
  good_arguments calls.On d below can g = (can, tt, (tt, tt, (tt, tt, g)))

  good_value : (made b : Bool) (below : List Symbol) → soft below ≡ true → Kept below → Kept (value_place made b ∷ below)
  unfolding Kept
  good_value made true below n g = (tt, n, g)
  good_value made false below n g = (tt, n, g)

  good_behind : (role : FieldUse) (ty : TypeId) (i : ℕ) (below : List Symbol) → soft below ≡ true → Kept below → Kept (behind_field s role ty i ++ below)
  unfolding Kept
  good_behind NumberField ty i below n g = (tt, tt, g)
  good_behind EntityField ty i below n g = (tt, tt, g)
  good_behind Looked ty i below n g = (tt, tt, g)
  good_behind Assigned ty i below n g = (tt, tt, (tt, tt, good_value false (s.is_ref ty i) below n g))

  good_operand : (d : ℕ) (t : Token) (new below : List Symbol) → soft below ≡ true → Kept below → Begun s limit d t new → Kept (new ++ below)
  unfolding Kept
  good_operand d t new below n g (by_number k is small leaves) = moved below _ new leaves (tt, tt, g)
  good_operand d t new below n g (by_open is deep leaves) = moved below _ new leaves (tt, refl, (tt, tt, g))
  good_operand d t new below n g (by_sign q op is deep known leaves) = moved below _ new leaves (tt, n, (tt, tt, g))
  good_operand d t new below n g (by_name name is may leaves) =
      moved below _ new leaves ((may, (λ u known. (kept_inv (s.has_field NumberField) (s.find name) u known).1), (λ c known. can_call name c known)), n, g)

  good_tail_on : (b : Bool) (level d : ℕ) (below : List Symbol) → soft below ≡ true → Kept below
      → (soft (cond b (wait.Tail level d ∷ []) [] ++ below) ≡ true) × Kept (cond b (wait.Tail level d ∷ []) [] ++ below)
  unfolding Kept
  good_tail_on true level d below n g = (n, (tt, n, g))
  good_tail_on false level d below n g = (n, g)

  good_named : (v : _) (ty : Option TypeId) (call : Option Call) (d : ℕ) (t : Token) (new below : List Symbol) → Ready s lawful limit (wait.Named v ty call d) → soft below ≡ true → Kept below
      → Followed s limit ty call d t new → Kept (new ++ below)
  unfolding Kept
  good_named v ty call d t new below r n g (by_dot u is known leaves) = moved below _ new leaves (r.1 u known, n, g)
  good_named v ty call d t new below r n g (by_call c is known deep leaves) = moved below _ new leaves (good_arguments c (suc d) below (r.2 c known) g)

  -- after the word of a command
  good_verb : (v : Verb) (below : List Symbol) → ServesCommands s → may_begin s v ≡ true → below ≡ [] → Kept below → Kept (behind_verb v ++ below)
  unfolding Kept
  good_verb verbs.Create below r may n g = (r, tt, (tt, tt, (r, ap (λ w. wait.Do act.Create ∷ w) n, (tt, tt, g))))
  good_verb verbs.Destroy below r may n g = (tt, ap soft n, (tt, tt, g))
  good_verb (verbs.Change c) below r may n g = let w = r.type_there (part_use c) [] may in (tt, refl, ((w.0, w.1, w.2, w.3), tt, (tt, tt, g)))
  good_verb (verbs.Turn t) below r may n g = let w = r.type_there (turn_use t) [] may in (tt, refl, ((w.0, w.1, w.2, w.3), tt, (tt, tt, g)))
  good_verb verbs.Instantiate below r may n g = (r, tt, (tt, tt, (tt, ap soft n, (tt, tt, g))))

  good_values_of : (ty : TypeId) (o : Option Bool) (below : List Symbol) → kind_at (s.refs ty) 0 ≡ o → Kept below → Kept (values_of ty o ++ below)
  unfolding Kept
  good_values_of ty None below e g = g
  good_values_of ty (Some k) below e g = ((k, e), tt, g)

  good_part : (ty : TypeId) (below : List Symbol) → Kept below → Kept (part_places s ty ++ below)
  unfolding Kept
  good_part ty below g = (tt, tt, good_values_of ty (kind_at (s.refs ty) 0) below refl g)

  good_joined : (used : List ℕ) (ty : TypeId) (below : List Symbol) → ServesCommands s → below ≡ wait.Do act.Create ∷ [] → Kept below → Kept (joined_part s used ty ++ below)
  unfolding Kept
  good_joined used ty below r n g =
      subst (λ w. Kept w) (sym (joined_append s used ty below)) (tt, tt, good_values_of ty (kind_at (s.refs ty) 0) _ refl (tt, tt, (r, n, g)))

  good_next_value : (ty : TypeId) (at : ℕ) (k : Bool) (below : List Symbol) → Kept below → Kept (value_place true k ∷ wait.Do act.Value ∷ wait.MoreValues ty (at + 1) ∷ below)
  unfolding Kept
  good_next_value ty at k below g = good_value true k _ refl (tt, tt, (tt, tt, g))

  good_take : (x : Symbol) (t : Token) (new below : List Symbol) → Ready s lawful limit x → Needs s lawful limit x below → Kept below → take s limit x t ≡ Some new → Kept (new ++ below)
  unfolding Kept
  good_take (wait.Level level d) t new below r n g h =
      let m = level_inv level d t new h in
      let w = good_tails level d below n g in
      let all = good_operand d t m.0 (tails level d ++ below) w.1 w.0 (begun s limit d t m.0 m.1) in
      moved below _ new m.2 (subst (λ k. Kept k) (sym (append_assoc m.0 (tails level d) below)) all)
  good_take (wait.Tail level d) t new below r n g h =
      let o = operated s limit level d t new h in
      let w = good_tail_on (associates level) level d below n g in
      moved below _ new o.leaves (tt, w.0, (tt, tt, w.1))
  good_take (wait.Named v ty call d) t new below r n g h = good_named v ty call d t new below r n g (followed s limit v ty call d t new h)
  good_take wait.Close t new below r n g h = moved below [] new (closed_inv t new h) g
  good_take wait.Comma t new below r n g h = moved below [] new (comma_inv t new h) g
  good_take wait.Dot t new below r n g h = moved below [] new (only_dot_inv t new h) g
  good_take wait.Becomes t new below r n g h = moved below [] new (becomes_inv t new h) g
  good_take (wait.Field ty role) t new below r n g h = let m = field_inv ty role t new h in moved below _ new m.1 (good_behind role ty m.0 below n g)
  good_take (wait.TypeField role) t new below r n g h = let m = type_field_inv role t new h in moved below _ new m.2 (tt, tt, (m.1, n, g))
  good_take (wait.Ref made) t new below r n g h =
      ⊎_elim (λ b. moved below _ new b.leaves (tt, tt, g))
      (λ b. moved below _ new b.leaves ((b.may, λ u known. (kept_inv (s.has_field EntityField) (s.find b.name) u known).1), n, g))
      (ref_inv s limit made t new h)
  good_take (wait.NamedRef p ty) t new below r n g h =
      let i = dot_inv s limit p ty t new h in
      let m = map_inv (λ u. wait.Field u EntityField ∷ []) ty new i.1 in
      moved below _ new m.2 (r.1 m.0 m.1, n, g)
  good_take (wait.Colon i) t new below r n g h = moved below _ new (colon_inv s limit i t new h).1 (tt, tt, g)
  good_take (wait.Version i) t new below r n g h = moved below _ new (version_inv s limit i t new h).leaves (tt, tt, g)
  good_take (wait.Type role) t new below r n g h = moved below _ new (type_inv role t new h).1 (tt, tt, g)
  good_take (wait.Do a) t new below r n g h = absurd (do_inv a t new h)
  good_take wait.Verb t new below r n g h = let b = verb_inv s limit t new h in moved below _ new b.leaves (good_verb b.verb below r b.may n g)
  good_take wait.New t new below r n g h = let b = new_inv s limit t new h in moved below _ new b.3 (tt, tt, g)
  good_take wait.From t new below r n g h = let b = from_inv s limit t new h in moved below [] new b.3 g
  good_take wait.With t new below r n g h = let b = with_inv s limit t new h in moved below _ new b.4 ((r, b.3), n, g)
  good_take (wait.Part role) t new below r n g h = let b = part_inv s limit role t new h in moved below _ new b.5 (good_part b.1 below g)
  good_take (wait.Parts used) t new below r n g h = let b = joined_inv s limit used t new h in moved below _ new b.6 (good_joined used b.1 below r.0 n g)
  good_take (wait.MoreParts used) t new below r n g h = let b = comma_of_parts_inv s limit used t new h in moved below _ new b.2 ((r, b.1), n, g)
  good_take (wait.Values ty) t new below r n g h = let b = first_value_inv s limit ty t new h in moved below _ new b.1.2 (good_next_value ty 0 b.1.0 below g)
  good_take (wait.MoreValues ty at) t new below r n g h =
      ⊎_elim (λ b. moved below _ new b.1.2 (good_next_value ty at b.1.0 below g)) (λ b. moved below [] new b.2 g) (more_values_inv s limit ty at t new h)

  pub keeps : (waits : List Symbol) (bs : List Built) (t : Token) (state : State) → Good s lawful limit waits → settle s limit waits bs t ≡ Some state → Good s lawful limit state.waits
  unfolding settle Kept
  keeps [] bs t state g h = absurd cc
  keeps (x ∷ below) bs t state g h = by (take s limit x t) (may_end x) refl h (keeps below (ended x bs) t state g.2) where
    by : (r : Option (List Symbol)) (b : Bool) → take s limit x t ≡ r → onward r b below bs (settle s limit below (ended x bs) t) ≡ Some state
        → (settle s limit below (ended x bs) t ≡ Some state → Good s lawful limit state.waits) → Good s lawful limit state.waits
    by (Some new) b e k later = subst (λ st. Good s lawful limit (waits_of st)) (one_state _ _ k) (good_take x t new below g.0 g.1 g.2 e)
    by None true e k later = later k
    by None false e k later = absurd cc
