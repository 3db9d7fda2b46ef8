-- The types of a row pass if and only if some choice of what is disabled lets it match.
use Rattle.std.proofs.Common.{◌≡◌, ℕ, nat_eq, inl, inr, Bool, true, false, not, ◌&&◌, ◌||◌, if◌then◌else◌, List, [], ◌∷◌, ◌++◌, length, map, filter, refl, sym, ap, ◌∙◌, subst, eqb-true}
use Rattle.std.specs.List.{list_any}
use Rattle.std.proofs.lemmas.Bool.{and_parts, cases_lt, false≢true}
use Rattle.std.proofs.lemmas.List.{get_or_past}
use Rattle.ent_types.specs.declared.type_info.TypeInfo.{TypeInfo}
use Rattle.ent_types.specs.declared.kinds.Kind.{Kind}
use Rattle.ent_types.specs.declared.kinds.Kind.TheVariants.{Plain, Tag, Shared, Cleanup, Buffer}
use Rattle.ent_types.specs.Registries.{type_at, plain_tag, IsLawfulRegistry}
use Rattle.ent_types.specs.Types.{may_be_enableable, is_shared, is_lawful_type}
use Rattle.ent_types.proofs.LawfulTypes.{is_lawful_type-at}
use Rattle.ent_types.specs.TypeLookups.{is_enableable_at, is_shared_at}
use Rattle.ent_types.specs.TypeSets.{has_type}
use Rattle.world_model.specs.Members.{In, AreDistinct}
use Rattle.world_model.specs.Row.{Cell, cell_type}
use Rattle.world_model.specs.Found.{Found}
use Rattle.world_model.specs.Lawful.{AreLawfulCells}
use Rattle.scenario_record.specs.declared.record.SystemEntry.{SystemEntry}
use Rattle.run_model.specs.Query.{is_off, is_on, is_disabled, matches, passes}
use Rattle.run_model.specs.LawfulQuery.{IsLawfulQuery, with_bits, SomeBitsMatch}
use Rattle.world_laws.proofs.Members.{in_left, in_right}
use Rattle.world_laws.proofs.Types.{has_in}
use Rattle.run_laws.proofs.Lists.{in_has, all_eq, any_eq}
use Rattle.run_laws.proofs.Matches.{matches_pass}

-- ---- what can be disabled isn't shared

own_kind : (kind : Kind) → may_be_enableable kind ≡ true → is_shared kind ≡ false
own_kind Plain h = refl
own_kind Tag h = refl
own_kind Shared h = absurd (cc)
own_kind Cleanup h = absurd (cc)
own_kind Buffer h = absurd (cc)

may_be : (e m : Bool) → (not e || m) ≡ true → e ≡ true → m ≡ true
may_be true m h is = h
may_be false m h is = absurd (cc)

enableable_is_own : (registry : List TypeInfo) → IsLawfulRegistry registry → (t : ℕ) → is_enableable_at registry t ≡ true → is_shared_at registry t ≡ false
unfolding is_lawful_type
enableable_is_own registry lawful t h =
    elim (cases_lt t (length registry)) [
      | inl within ↦ own_kind (type_at registry t).kind
          (may_be (type_at registry t).enableable (may_be_enableable (type_at registry t).kind) (and_parts _ _ (and_parts _ _ (is_lawful_type-at registry lawful t within)).1).0 h)
      | inr past ↦ absurd (false≢true (sym (ap (λ (u : TypeInfo). u.enableable) (get_or_past registry t (plain_tag []) past)) ∙ h))
    ]

-- ---- lists

not_has : (t : ℕ) (us : List ℕ) → (In t us → ⊥) → has_type us t ≡ false
not_has t us h = by (has_type us t) refl
  where
    by : (b : Bool) → has_type us t ≡ b → b ≡ false
    by true e = absurd (h (has_in t us e))
    by false e = refl

-- what is in one part of distinct numbers isn't in the other
apart : (t : ℕ) (xs ys : List ℕ) → AreDistinct (xs ++ ys) → In t xs → In t ys → ⊥
apart t [] ys h i j = absurd i
apart t (x ∷ xs) ys h (inl e) j = h.0 (in_right x xs ys (subst (λ u. In u ys) e j))
apart t (x ∷ xs) ys h (inr i) j = apart t xs ys h.1 i j

pub distinct_right : (xs ys : List ℕ) → AreDistinct (xs ++ ys) → AreDistinct ys
distinct_right [] ys h = h
distinct_right (x ∷ xs) ys h = distinct_right xs ys h.1

has_filter : (p : ℕ → Bool) (t : ℕ) (ts : List ℕ) → p t ≡ true → has_type (filter p ts) t ≡ has_type ts t
has_filter p t [] h = refl
has_filter p t (u ∷ us) h = by (p u) (nat_eq u t) refl refl (has_filter p t us h)
  where
    by : (b c : Bool) → p u ≡ b → nat_eq u t ≡ c → has_type (filter p us) t ≡ has_type us t
        → has_type (if b then u ∷ filter p us else filter p us) t ≡ (c || has_type us t)
    by true c e f rest = ap (λ d. d || has_type (filter p us) t) f ∙ ap (λ d. c || d) rest
    by false true e f rest =
        let no_way : true ≡ false = sym h ∙ (sym (ap p (eqb-true u t f)) ∙ e) in absurd (cc)
    by false false e f rest = rest

and_false : (b : Bool) → false ≡ (b && false)
and_false true = refl
and_false false = refl

-- ---- bits

module _ (registry : List TypeInfo) (off : ℕ → Bool) where
  abbrev set_bit : Cell → Cell
  set_bit c = record c { off = is_enableable_at registry c.type_id && off c.type_id }

  absorb : (a b : Bool) → (a || (b && a)) ≡ a
  absorb true b = refl
  absorb false true = refl
  absorb false false = refl

  any_set : (t : ℕ) (cells : List Cell)
      → list_any (λ (c : Cell). nat_eq c.type_id t && c.off) (map set_bit cells) ≡ (has_type (map cell_type cells) t && (is_enableable_at registry t && off t))
  any_set t [] = refl
  any_set t (c ∷ cs) = by (nat_eq c.type_id t) refl (any_set t cs)
    where
      by : (b : Bool) → nat_eq c.type_id t ≡ b
          → list_any (λ (d : Cell). nat_eq d.type_id t && d.off) (map set_bit cs) ≡ (has_type (map cell_type cs) t && (is_enableable_at registry t && off t))
          → ((b && (is_enableable_at registry c.type_id && off c.type_id)) || list_any (λ (d : Cell). nat_eq d.type_id t && d.off) (map set_bit cs))
          ≡ ((b || has_type (map cell_type cs) t) && (is_enableable_at registry t && off t))
      by true e rest =
          ap (λ u. (is_enableable_at registry u && off u) || list_any (λ (d : Cell). nat_eq d.type_id t && d.off) (map set_bit cs)) (eqb-true c.type_id t e)
          ∙ (ap (λ d. (is_enableable_at registry t && off t) || d) rest ∙ absorb (is_enableable_at registry t && off t) (has_type (map cell_type cs) t))
      by false e rest = rest

module _ (registry : List TypeInfo) (lawful : IsLawfulRegistry registry) (s : SystemEntry) (x : Found) (cells : AreLawfulCells registry x.home.types x.row.cells) where
  -- what `none` and `disabled` name is disabled
  abbrev best : ℕ → Bool
  best t = has_type s.none t || has_type s.disabled t

  abbrev changed : Found
  changed = with_bits registry best x

  is_off_is : (t : ℕ) → is_off registry t changed.row.cells ≡ (has_type x.home.types t && (is_enableable_at registry t && best t))
  is_off_is t =
      ap (λ b. is_enableable_at registry t && b) (any_set registry best t x.row.cells ∙ ap (λ ts. has_type ts t && (is_enableable_at registry t && best t)) cells.types_are)
      ∙ by (is_enableable_at registry t) refl
    where
      by : (e : Bool) → is_enableable_at registry t ≡ e
          → (e && (has_type (filter (λ u. not (is_shared_at registry u)) x.home.types) t && (e && best t))) ≡ (has_type x.home.types t && (e && best t))
      by true h = ap (λ b. b && best t) (has_filter (λ u. not (is_shared_at registry u)) t x.home.types (ap not (enableable_is_own registry lawful t h)))
      by false h = and_false (has_type x.home.types t)

  absorbed : (a b : Bool) → (a && not (a && b)) ≡ (a && not b)
  absorbed true b = refl
  absorbed false b = refl

  kept : (a b : Bool) → (a && (a && b)) ≡ (a && b)
  kept true b = refl
  kept false b = refl

  on_is : (t : ℕ) → is_on registry changed t ≡ (has_type x.home.types t && not (is_enableable_at registry t && best t))
  on_is t = ap (λ b. has_type x.home.types t && not b) (is_off_is t) ∙ absorbed (has_type x.home.types t) (is_enableable_at registry t && best t)

  disabled_is : (t : ℕ) → is_disabled registry changed t ≡ (has_type x.home.types t && (is_enableable_at registry t && best t))
  disabled_is t = ap (λ b. has_type x.home.types t && b) (is_off_is t) ∙ kept (has_type x.home.types t) (is_enableable_at registry t && best t)

  module _ (query : IsLawfulQuery registry s) where
    after_all : AreDistinct (s.any ++ (s.none ++ (s.disabled ++ s.absent)))
    after_all = distinct_right s.all (s.any ++ (s.none ++ (s.disabled ++ s.absent))) query.once

    not_best : (t : ℕ) → (In t s.none → ⊥) → (In t s.disabled → ⊥) → best t ≡ false
    not_best t h k = ap (λ b. b || has_type s.disabled t) (not_has t s.none h) ∙ not_has t s.disabled k

    stays : (t : ℕ) → best t ≡ false → is_on registry changed t ≡ has_type x.home.types t
    stays t h = on_is t ∙ (ap (λ b. has_type x.home.types t && not (is_enableable_at registry t && b)) h ∙ by (has_type x.home.types t) (is_enableable_at registry t))
      where
        by : (a e : Bool) → (a && not (e && false)) ≡ a
        by true true = refl
        by true false = refl
        by false e = refl

    all_on : (t : ℕ) → In t s.all → is_on registry changed t ≡ has_type x.home.types t
    all_on t i =
        let later : In t (s.none ++ (s.disabled ++ s.absent)) → ⊥ =
        λ j. apart t s.all (s.any ++ (s.none ++ (s.disabled ++ s.absent))) query.once i (in_right t s.any (s.none ++ (s.disabled ++ s.absent)) j) in
        stays t (not_best t (λ j. later (in_left t s.none (s.disabled ++ s.absent) j)) (λ j. later (in_right t s.none (s.disabled ++ s.absent) (in_left t s.disabled s.absent j))))

    any_on : (t : ℕ) → In t s.any → is_on registry changed t ≡ has_type x.home.types t
    any_on t i =
        let later : In t (s.none ++ (s.disabled ++ s.absent)) → ⊥ = λ j. apart t s.any (s.none ++ (s.disabled ++ s.absent)) after_all i j in
        stays t (not_best t (λ j. later (in_left t s.none (s.disabled ++ s.absent) j)) (λ j. later (in_right t s.none (s.disabled ++ s.absent) (in_left t s.disabled s.absent j))))

    none_on : (t : ℕ) → In t s.none → is_on registry changed t ≡ (has_type x.home.types t && not (is_enableable_at registry t))
    none_on t i =
        on_is t
        ∙ (ap (λ b. has_type x.home.types t && not (is_enableable_at registry t && (b || has_type s.disabled t))) (in_has t s.none i)
        ∙ by (is_enableable_at registry t))
      where
        by : (e : Bool) → (has_type x.home.types t && not (e && true)) ≡ (has_type x.home.types t && not e)
        by true = refl
        by false = refl

    disabled_off : (t : ℕ) → In t s.disabled → is_disabled registry changed t ≡ has_type x.home.types t
    disabled_off t i =
        disabled_is t
        ∙ (ap (λ e. has_type x.home.types t && (e && best t)) (query.disabled t i)
        ∙ (ap (λ b. has_type x.home.types t && (has_type s.none t || b)) (in_has t s.disabled i) ∙ by (has_type x.home.types t) (has_type s.none t)))
      where
        by : (a b : Bool) → (a && (b || true)) ≡ a
        by true true = refl
        by true false = refl
        by false b = refl

    -- with these bits the row matches where its types pass
    changed_matches : matches registry s changed ≡ passes registry s x.home.types
    changed_matches =
        let a = all_eq (is_on registry changed) (has_type x.home.types) s.all all_on in
        let b = any_eq (is_on registry changed) (has_type x.home.types) s.any any_on in
        let c = any_eq (is_on registry changed) (λ t. has_type x.home.types t && not (is_enableable_at registry t)) s.none none_on in
        let d = all_eq (is_disabled registry changed) (has_type x.home.types) s.disabled disabled_off in
        rw (a, b, c, d) refl

    pub some_bits : passes registry s x.home.types ≡ true → SomeBitsMatch registry s x
    some_bits h = record { off = best; is_match = changed_matches ∙ h }

pub bits_pass : (registry : List TypeInfo) (s : SystemEntry) (x : Found) → SomeBitsMatch registry s x → passes registry s x.home.types ≡ true
bits_pass registry s x some = matches_pass registry s (with_bits registry some.off x) some.is_match
