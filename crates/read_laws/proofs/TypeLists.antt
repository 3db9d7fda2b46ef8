-- Lists of type names, as they are read.
use Rattle.std.proofs.Common.{ℕ, ◌≡◌, ◌+◌, ◌≤◌, List, Bool, true, false, not, ◌||◌, eqb, Some, Ok, length, refl, sym, ap, ◌∙◌, subst, arith, inl, inr}
use Rattle.std.specs.List.{list_all}
use Rattle.std.proofs.lemmas.Bool.{or_cases, or_parts, eqb-true, not-false}
use Rattle.std.proofs.lemmas.Option.{cond_some}
use Rattle.toml.specs.Data.{Data, Items, Members}
use Rattle.ent_types.specs.declared.type_info.TypeInfo.{TypeInfo}
use Rattle.ent_types.specs.Names.{is_name, name_of}
use Rattle.ent_types.specs.Registries.{type_named}
use Rattle.ent_types.specs.TypeSets.{IsRisingFrom, has_type}
use Rattle.ent_types.proofs.TypeNumbers.{type_named-Some}
use Rattle.ent_types.proofs.TypeSetLaws.{length-with_type}
use Rattle.ent_types.proofs.TypeSetLemmas.{or_left_comm, has_type-with_type, IsRisingFrom-with_type}
use Rattle.scenario_record.specs.declared.fault.Cause.TheVariants.{BadName, BadKind, UnknownName, DuplicateName}
use Rattle.scenario_record.specs.Readings.{◌>>=◌, or_fault}
use Rattle.scenario_tables.specs.ReadKeys.{text, name, name_in, list_up_to, each_over, item_count}
use Rattle.scenario_tables.specs.ReadTypeLists.{is_allowed, allowed_type, known_type, type_of_key, new_type_in, type_of_item, found_one, one_more_type, none_beside, type_list}
use Rattle.scenario_tables.specs.ReadQueries.{clause}
use Rattle.scenario_tables.specs.Parts.{Allowed, Named}
use Rattle.read_laws.proofs.Inversions.{then_ok, ok_same, or_fault_ok, fault_ok, optional_ok, list_up_to_ok, each_over_ok}
use Rattle.read_laws.proofs.Lists.{all_with_type}

-- ---- names

pub record IsNameOf (s n : List ℕ) : Type 0 where
  pub same : s ≡ n
  pub lawful : is_name n ≡ true

pub name_in_ok : (s n : List ℕ) → name_in s ≡ Ok n → IsNameOf s n
name_in_ok s n is =
    let (lawful, same) = cond_some (is_name s) s n (or_fault_ok BadName (name_of s) n is) in
    record { same = same; lawful = subst (λ m. is_name m ≡ true) same lawful }

pub name_ok : (d : Data) (n : List ℕ) → name d ≡ Ok n → is_name n ≡ true
name_ok d n is = let s = then_ok name_in (text d) n is in (name_in_ok s.0 n s.2).lawful

-- ---- types

module _ (registry : List TypeInfo) (allowed : Allowed) where
  pub record IsKnown (n : List ℕ) (ty : ℕ) : Type 0 where
    pub named : type_named registry n ≡ Some ty
    pub fits : is_allowed registry allowed ty ≡ true

  pub known_type_ok : (n : List ℕ) (ty : ℕ) → known_type registry allowed n ≡ Ok ty → IsKnown n ty
  known_type_ok n ty is =
      let t = then_ok (allowed_type registry allowed) (or_fault UnknownName (type_named registry n)) ty is in
      let kept = fault_ok (not (is_allowed registry allowed t.0)) BadKind (Ok t.0) ty t.2 in
      subst (IsKnown n) (ok_same t.0 ty kept.1) (record { named = or_fault_ok UnknownName (type_named registry n) t.0 t.1; fits = not-false _ kept.0 })

  pub type_of_key_ok : (key : List ℕ) (ty : ℕ) → type_of_key registry allowed key ≡ Ok ty → IsKnown key ty
  type_of_key_ok key ty is =
      let n = then_ok (known_type registry allowed) (name_in key) ty is in
      subst (λ k. IsKnown k ty) (sym (name_in_ok key n.0 n.1).same) (known_type_ok n.0 ty n.2)

  -- ---- lists of types

  -- what was found of a list of at most `most` names, of which none was taken before
  pub record IsNamed (taken : List ℕ) (most : ℕ) (n : Named) : Type 0 where
    pub rising : IsRisingFrom 0 (length registry) n.found
    pub fits : list_all (is_allowed registry allowed) n.found ≡ true
    pub apart : (t : ℕ) → has_type n.found t ≡ true → has_type taken t ≡ false
    pub taken_now : (t : ℕ) → has_type n.taken t ≡ (has_type taken t || has_type n.found t)
    pub few : length n.found ≤ most

  module _ (taken : List ℕ) where
    one_more : (i : ℕ) (n m : Named) (d : Data) → IsNamed taken i n → one_more_type registry allowed n d ≡ Ok m → IsNamed taken (i + 1) m
    one_more i n m d so_far is =
        let t = then_ok (λ ty. Ok (found_one n ty)) (type_of_item registry allowed n.taken d) m is in
        let name_read = then_ok (λ k. known_type registry allowed k >>= new_type_in n.taken) (name d) t.0 t.1 in
        let known = then_ok (new_type_in n.taken) (known_type registry allowed name_read.0) t.0 name_read.2 in
        let fresh = fault_ok (has_type n.taken known.0) DuplicateName (Ok known.0) t.0 known.2 in
        subst (IsNamed taken (i + 1)) (ok_same (found_one n t.0) m t.2)
        (grown name_read.0 t.0 (subst (IsKnown name_read.0) (ok_same known.0 t.0 fresh.1) (known_type_ok name_read.0 known.0 known.1))
        (subst (λ ty. has_type n.taken ty ≡ false) (ok_same known.0 t.0 fresh.1) fresh.0))
      where
        grown : (k : List ℕ) (ty : ℕ) → IsKnown k ty → has_type n.taken ty ≡ false → IsNamed taken (i + 1) (found_one n ty)
        grown k ty known fresh =
            let (before, not_found) = or_parts (has_type taken ty) (has_type n.found ty) (sym (so_far.taken_now ty) ∙ fresh) in
            record {
              rising = IsRisingFrom-with_type 0 (length registry) n.found ty so_far.rising (omega arith) (type_named-Some registry k ty known.named).0;
              fits = all_with_type (is_allowed registry allowed) n.found ty so_far.fits known.fits;
              apart = λ t there. elim (or_cases _ _ (sym (has_type-with_type n.found ty t) ∙ there)) [
                | inl here ↦ subst (λ u. has_type taken u ≡ false) (eqb-true ty t here) before
                | inr earlier ↦ so_far.apart t earlier
              ];
              taken_now = λ t.
                  has_type-with_type n.taken ty t ∙ ap (λ b. eqb ty t || b) (so_far.taken_now t)
                  ∙ or_left_comm (eqb ty t) (has_type taken t) (has_type n.found t)
                  ∙ ap (λ b. has_type taken t || b) (sym (has_type-with_type n.found ty t));
              few = omega (arith, length-with_type n.found ty not_found, so_far.few);
            }

    none_yet : IsNamed taken 0 (none_beside taken)
    none_yet = record {
      rising = tt;
      fits = refl;
      apart = λ t there. absurd cc;
      taken_now = λ t. or_false (has_type taken t);
      few = omega arith;
    }
      where
        or_false : (b : Bool) → b ≡ (b || false)
        or_false true = refl
        or_false false = refl

    pub names_ok : (ds : Items) (n : Named) → each_over (one_more_type registry allowed) (none_beside taken) 0 ds ≡ Ok n → IsNamed taken (item_count ds) n
    names_ok ds n is =
        let count : 0 + item_count ds ≡ item_count ds = omega arith in
        subst (λ most. IsNamed taken most n) count
        (each_over_ok (IsNamed taken) (one_more_type registry allowed) (item_count ds) (λ i s t d below so_far got. one_more i s t d so_far got)
        0 (none_beside taken) n ds (omega arith) none_yet is)

    fewer : (few most : ℕ) (n : Named) → few ≤ most → IsNamed taken few n → IsNamed taken most n
    fewer few most n less h = record { rising = h.rising; fits = h.fits; apart = h.apart; taken_now = h.taken_now; few = omega (arith, h.few) }

    pub type_list_ok : (most : ℕ) (d : Data) (n : Named) → type_list most registry allowed taken d ≡ Ok n → IsNamed taken most n
    type_list_ok most d n is =
        let ds = then_ok (each_over (one_more_type registry allowed) (none_beside taken) 0) (list_up_to most d) n is in
        fewer (item_count ds.0) most n (list_up_to_ok most d ds.0 ds.1) (names_ok ds.0 n ds.2)

    -- one of the five clauses
    pub clause_ok : (key : List ℕ) (ms : Members) (n : Named) → clause key registry allowed taken ms ≡ Ok n → IsNamed taken 256 n
    clause_ok key ms n is =
        optional_ok (IsNamed taken 256) key (none_beside taken) (type_list 256 registry allowed taken) ms n
        (fewer 0 256 (none_beside taken) (omega arith) none_yet) (λ d got. type_list_ok 256 d n got) is
