-- The change filter: marks looked up by type.
use Rattle.std.proofs.Common.{◌≡◌, ℕ, inl, inr, nat_eq, Bool, true, false, not, ◌&&◌, ◌||◌, cond, List, [], ◌∷◌, map, Some, None, refl, sym, ap, ◌∙◌, subst}
use Rattle.std.specs.List.{list_any}
use Rattle.std.proofs.lemmas.Bool.{and_from, and_parts, eq-eqb, ne_eqb}
use Rattle.system_version.specs.Versions.{is_later}
use Rattle.ent_types.specs.TypeSets.{has_type}
use Rattle.world_model.specs.Members.{In, AreDistinct}
use Rattle.world_model.specs.Row.{Row}
use Rattle.world_model.specs.World.{Home, Mark, mark_type}
use Rattle.world_laws.proofs.Members.{in_map, map_in}
use Rattle.world_laws.proofs.Types.{has_in}
use Rattle.chunk_block.specs.Blocks.{mark_at}
use Rattle.run_model.specs.Clock.{versions}
use Rattle.run_model.specs.Query.{is_empty, is_fresh}
use Rattle.run_laws.proofs.Lists.{in_has}
use Rattle.query_select.specs.declared.filter.Filter.{Filter}
use Rattle.query_select.specs.Entries.{last_run, only_filter}

-- ---- tests of members

module _ {X : Type 0} (p : X → Bool) where
  any_member : (xs : List X) → list_any p xs ≡ true → (x : X) × In x xs × (p x ≡ true)
  any_member [] h = absurd (cc)
  any_member (x ∷ xs) h = by (p x) refl h (any_member xs)
    where
      by : (b : Bool) → p x ≡ b → (b || list_any p xs) ≡ true → (list_any p xs ≡ true → (y : X) × In y xs × (p y ≡ true)) → (y : X) × In y (x ∷ xs) × (p y ≡ true)
      by true e h rest = (x, inl refl, e)
      by false e h rest = let found = rest h in (found.0, inr found.1, found.2)

  member_any : (x : X) (xs : List X) → In x xs → p x ≡ true → list_any p xs ≡ true
  member_any x [] i h = absurd i
  member_any x (y ∷ ys) (inl e) h = ap (λ b. b || list_any p ys) (ap p (sym e) ∙ h)
  member_any x (y ∷ ys) (inr i) h = by (p y) (member_any x ys i h)
    where
      by : (b : Bool) → list_any p ys ≡ true → (b || list_any p ys) ≡ true
      by true rest = refl
      by false rest = rest

same_tests : (a b : Bool) → (a ≡ true → b ≡ true) → (b ≡ true → a ≡ true) → a ≡ b
same_tests true true to from = refl
same_tests true false to from = sym (to refl)
same_tests false true to from = from refl
same_tests false false to from = refl

-- ---- marks

-- among marks of which each type is there once, the mark of a type is that of its member
mark_there : (m : Mark) (marks : List Mark) → AreDistinct (map mark_type marks) → In m marks → mark_at m.type_id marks ≡ m.moment
mark_there m [] once i = absurd i
mark_there m (n ∷ ns) once (inl e) =
    ap (λ b. cond b n.moment (mark_at m.type_id ns)) (eq-eqb n.type_id m.type_id (ap mark_type (sym e))) ∙ ap (λ (k : Mark). k.moment) (sym e)
mark_there m (n ∷ ns) once (inr i) =
    ap (λ b. cond b n.moment (mark_at m.type_id ns)) (ne_eqb n.type_id m.type_id (λ e. once.0 (subst (λ t. In t (map mark_type ns)) (sym e) (map_in mark_type m ns i))))
    ∙ mark_there m ns once.1 i

any_mark : (changed : List ℕ) (last : ℕ) (marks : List Mark) → AreDistinct (map mark_type marks) → ((t : ℕ) → In t changed → In t (map mark_type marks))
    → list_any (λ (m : Mark). has_type changed m.type_id && is_later m.moment last) marks ≡ list_any (λ t. is_later (mark_at t marks) last) changed
any_mark changed last marks once marked = same_tests _ _ to from
  where
    to : list_any (λ (m : Mark). has_type changed m.type_id && is_later m.moment last) marks ≡ true → list_any (λ t. is_later (mark_at t marks) last) changed ≡ true
    to h =
        let found = any_member (λ (m : Mark). has_type changed m.type_id && is_later m.moment last) marks h in
        let m = found.0 in
        let parts = and_parts (has_type changed m.type_id) (is_later m.moment last) found.2 in
        member_any (λ t. is_later (mark_at t marks) last) m.type_id changed (has_in m.type_id changed parts.0)
        (ap (λ v. is_later v last) (mark_there m marks once found.1) ∙ parts.1)

    from : list_any (λ t. is_later (mark_at t marks) last) changed ≡ true → list_any (λ (m : Mark). has_type changed m.type_id && is_later m.moment last) marks ≡ true
    from h =
        let found = any_member (λ t. is_later (mark_at t marks) last) changed h in
        let t = found.0 in
        let at = in_map mark_type t marks (marked t found.1) in
        let m = at.0 in
        member_any (λ (n : Mark). has_type changed n.type_id && is_later n.moment last) m marks at.1
        (and_from (has_type changed m.type_id) (is_later m.moment last) (ap (has_type changed) (sym at.2) ∙ in_has t changed found.1)
        (ap (λ v. is_later v last) (sym (mark_there m marks once at.1)) ∙ ap (λ u. is_later (mark_at u marks) last) (sym at.2) ∙ found.2))

-- what the change filter says of a block, by its types
pub fresh_is : (filter : Filter) (last : ℕ) (home : Home) (marks : List Mark) (rows : List Row) (order : ℕ) → AreDistinct (map mark_type marks)
    → ((t : ℕ) → In t filter.changed → In t (map mark_type marks))
    → is_fresh [] versions (only_filter filter) (last_run last) (record { home = home; marks = marks; rows = rows; order = order })
    ≡ (nat_eq last 0 || ((is_empty filter.changed && not filter.order) || (list_any (λ t. is_later (mark_at t marks) last) filter.changed || (filter.order && is_later order last))))
fresh_is filter last home marks rows order once marked = by (nat_eq last 0)
  where
    by : (b : Bool) → is_fresh [] versions (only_filter filter) (cond b None (Some last)) (record { home = home; marks = marks; rows = rows; order = order })
        ≡ (b || ((is_empty filter.changed && not filter.order) || (list_any (λ t. is_later (mark_at t marks) last) filter.changed || (filter.order && is_later order last))))
    by true = refl
    by false = ap (λ a. (is_empty filter.changed && not filter.order) || (a || (filter.order && is_later order last))) (any_mark filter.changed last marks once marked)
