-- That parts which were read, or are given, make a row.
use Rattle.std.proofs.Common.{ℕ, ◌≡◌, ◌≢◌, ◌⊎◌, ◌∙◌, ◌&&◌, inl, inr, Bool, true, false, not, cond, sym, ap, refl, subst, List, [], ◌∷◌, map, filter, Some}
use Rattle.std.specs.Prelude.{unwrap_or, option_map}
use Rattle.std.proofs.lemmas.Bool.{cases_eq, and_parts}
use Rattle.ent_types.specs.declared.type_info.TypeInfo.{TypeInfo}
use Rattle.ent_types.specs.declared.value.Value.{Value}
use Rattle.ent_types.specs.TypeLookups.{is_shared_at, is_enableable_at}
use Rattle.ent_types.specs.TypeSets.{has_type, with_type}
use Rattle.world_model.specs.Fits.{Fits, IsKnown, IsFitting}
use Rattle.world_model.specs.Members.{In, AreDistinct}
use Rattle.world_model.specs.Part.{PartOf, part_type}
use Rattle.world_model.specs.Row.{Cell, cell_type}
use Rattle.world_model.specs.Found.{Found, part_at, values_of}
use Rattle.world_model.specs.Lawful.{IsLawfulRow}
use Rattle.world_laws.proofs.Members.{in_map}
use Rattle.world_laws.proofs.Types.{has_in, in_with, at_own_type}
use Rattle.chunk_block.specs.Blocks.{is_off}
use Rattle.world_rows.specs.Rows.{AreParts, values_at, part_in}
use Rattle.world_rows.specs.Types.{set_of}
use Rattle.world_rows.proofs.Reading.{shared_rising, cell_own, cell_off, cell_values, shared_values, values_read, values_behind, values_first, content_absent}
use Rattle.world_rows.proofs.Becoming.{values_distinct}

-- what passes is in what is filtered
pub in_passed : (p : ℕ → Bool) (t : ℕ) (ts : List ℕ) → In t ts → p t ≡ true → In t (filter p ts)
in_passed p t [] i e = absurd i
in_passed p t (u ∷ us) (inl same) e = subst (λ b. In t (cond b (u ∷ filter p us) (filter p us))) (sym (ap p (sym same) ∙ e)) (inl same)
in_passed p t (u ∷ us) (inr i) e = by (p u) (in_passed p t us i e)
  where
    by : (b : Bool) → In t (filter p us) → In t (cond b (u ∷ filter p us) (filter p us))
    by true j = inr j
    by false j = j

module _ (registry : List TypeInfo) (x : Found) (lawful : IsLawfulRow registry x) where
  -- what the row has of a type
  pub has_part : (t : ℕ) → In t x.home.types → is_shared_at registry t ≡ true → (p : PartOf Value) × In p x.home.shared × (t ≡ part_type p)
  has_part t i shared = in_map part_type t x.home.shared (subst (In t) (sym lawful.home.shared) (in_passed (is_shared_at registry) t x.home.types i shared))

  pub has_cell : (t : ℕ) → In t x.home.types → is_shared_at registry t ≡ false → (c : Cell) × In c x.row.cells × (t ≡ cell_type c)
  has_cell t i own = in_map cell_type t x.row.cells (subst (In t) (sym lawful.cells.types_are) (in_passed (λ u. not (is_shared_at registry u)) t x.home.types i (ap not own)))

  -- the values of a shared type are there
  pub part_there : (t : ℕ) → In t x.home.types → is_shared_at registry t ≡ true → (vs : List Value) × (part_at t x.home.shared ≡ Some vs)
  part_there t i shared = from (has_part t i shared)
    where
      from : ((p : PartOf Value) × In p x.home.shared × (t ≡ part_type p)) → (vs : List Value) × (part_at t x.home.shared ≡ Some vs)
      from (p, j, same) = (
        p.values,
        ap (λ u. part_at u x.home.shared) same ∙ ap (option_map (λ (q : PartOf Value). q.values)) (at_own_type part_type p x.home.shared (shared_rising registry x lawful) j),
      )

  pub values_fit : (t : ℕ) → In t x.home.types → Fits registry t (unwrap_or (values_of t x) [])
  values_fit t i = by (is_shared_at registry t) refl
    where
      by : (b : Bool) → is_shared_at registry t ≡ b → Fits registry t (unwrap_or (values_of t x) [])
      by true e = part (has_part t i e)
        where
          part : ((p : PartOf Value) × In p x.home.shared × (t ≡ part_type p)) → Fits registry t (unwrap_or (values_of t x) [])
          part (p, j, same) =
              subst (λ u. Fits registry u (unwrap_or (values_of u x) [])) (sym same)
              (subst (λ o. Fits registry p.type_id (unwrap_or o [])) (sym (shared_values registry x lawful p j)) (lawful.home.fit p j))
      by false e = cell (has_cell t i e)
        where
          cell : ((c : Cell) × In c x.row.cells × (t ≡ cell_type c)) → Fits registry t (unwrap_or (values_of t x) [])
          cell (c, j, same) =
              subst (λ u. Fits registry u (unwrap_or (values_of u x) [])) (sym same)
              (subst (λ o. Fits registry c.type_id (unwrap_or o [])) (sym (cell_values registry x lawful c j)) (lawful.cells.fit c j))

  -- only what is enableable is off
  off_enableable : (t : ℕ) → In t x.home.types → is_off t x.row ≡ true → is_enableable_at registry t ≡ true
  off_enableable t i off = by (is_shared_at registry t) refl
    where
      by : (b : Bool) → is_shared_at registry t ≡ b → is_enableable_at registry t ≡ true
      by true e = absurd (cc (sym (content_absent t x.row.cells (λ c j same. absurd (cc (sym (cell_own registry x lawful c j) ∙ ap (is_shared_at registry) same ∙ e)))) ∙ off))
      by false e = cell (has_cell t i e)
        where
          cell : ((c : Cell) × In c x.row.cells × (t ≡ cell_type c)) → is_enableable_at registry t ≡ true
          cell (c, j, same) =
              subst (λ u. is_enableable_at registry u ≡ true) (sym same)
              (lawful.cells.off c j (sym (cell_off registry x lawful c j) ∙ ap (λ u. is_off u x.row) (sym same) ∙ off))

  pub read_are : (ts off : List ℕ) → ((t : ℕ) → In t ts → In t x.home.types) → ((t : ℕ) → has_type off t ≡ (has_type ts t && is_off t x.row)) → AreParts registry ts (map (part_in x) ts) off
  read_are ts off among bits = record {
    known = λ t i. lawful.home.known t (among t i);
    fit = λ t i. subst (Fits registry t) (sym (values_read registry x lawful t ts i)) (values_fit t (among t i));
    bits = λ t i e. off_enableable t (among t i) (and_parts (has_type ts t) (is_off t x.row) (sym (bits t) ∙ e)).1;
  }

  pub taken_are : (p : PartOf Value) (off : List ℕ) → IsFitting registry p → ((t : ℕ) → has_type off t ≡ (has_type x.home.types t && is_off t x.row))
      → AreParts registry (with_type x.home.types p.type_id) (p ∷ map (part_in x) x.home.types) off
  taken_are p off fits bits = record {
    known = λ t i. known t (in_with p.type_id t x.home.types i);
    fit = λ t i. fit t (in_with p.type_id t x.home.types i);
    bits = λ t i e. let both = and_parts (has_type x.home.types t) (is_off t x.row) (sym (bits t) ∙ e) in off_enableable t (has_in t x.home.types both.0) both.1;
  }
    where
      known : (t : ℕ) → (t ≡ p.type_id) ⊎ In t x.home.types → IsKnown registry t
      known t (inl e) = subst (IsKnown registry) (sym e) fits.known
      known t (inr i) = lawful.home.known t i

      fit : (t : ℕ) → (t ≡ p.type_id) ⊎ In t x.home.types → Fits registry t (values_at t (p ∷ map (part_in x) x.home.types))
      fit t is =
          elim (cases_eq p.type_id t) [
            | inl same ↦
                subst (λ u. Fits registry u (values_at u (p ∷ map (part_in x) x.home.types))) same
                (subst (Fits registry p.type_id) (sym (values_first p (map (part_in x) x.home.types))) fits.fit)
            | inr apart ↦
                subst (Fits registry t) (sym (values_behind t p (map (part_in x) x.home.types) apart ∙ values_read registry x lawful t x.home.types (other is apart))) (values_fit t (other is apart))
          ]
        where
          other : (t ≡ p.type_id) ⊎ In t x.home.types → p.type_id ≢ t → In t x.home.types
          other (inl e) apart = absurd (apart (sym e))
          other (inr i) apart = i

-- the parts of a new row
pub given_are : (registry : List TypeInfo) (ps : List (PartOf Value)) → ((p : PartOf Value) → In p ps → IsFitting registry p) → AreDistinct (map part_type ps)
    → AreParts registry (set_of (map part_type ps)) ps []
given_are registry ps fits distinct = record {
  known = λ t i. known (member t i);
  fit = λ t i. fit (member t i);
  bits = λ t i e. absurd (cc e);
}
  where
    in_set : (t : ℕ) (us : List ℕ) → In t (set_of us) → In t us
    in_set t [] i = absurd i
    in_set t (u ∷ us) i = by (in_with u t (set_of us) i) (in_set t us)
      where
        by : (t ≡ u) ⊎ In t (set_of us) → (In t (set_of us) → In t us) → In t (u ∷ us)
        by (inl e) rest = inl e
        by (inr j) rest = inr (rest j)

    member : (t : ℕ) → In t (set_of (map part_type ps)) → (p : PartOf Value) × In p ps × (t ≡ part_type p)
    member t i = in_map part_type t ps (in_set t (map part_type ps) i)

    known : {t : ℕ} → ((p : PartOf Value) × In p ps × (t ≡ part_type p)) → IsKnown registry t
    known (p, i, e) = subst (IsKnown registry) (sym e) (fits p i).known

    fit : {t : ℕ} → ((p : PartOf Value) × In p ps × (t ≡ part_type p)) → Fits registry t (values_at t ps)
    fit (p, i, e) = subst (λ u. Fits registry u (values_at u ps)) (sym e) (subst (Fits registry p.type_id) (sym (values_distinct p ps distinct i)) (fits p i).fit)
