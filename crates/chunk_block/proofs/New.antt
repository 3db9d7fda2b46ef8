-- A block with no row is sound.
use Rattle.std.proofs.Common.{ℕ, inl, inr, ◌≡◌, ◌≢◌, ◌<◌, ◌≤◌, ◌+◌, ◌∙◌, ◌||◌, Bool, true, false, cond, sym, ap, refl, List, [], ◌∷◌, ◌++◌, length, map, arith}
use Rattle.std.specs.Prelude.{nat_le}
use Rattle.std.proofs.lemmas.Bool.{cases_lt, and_parts, leb-true, ne_eqb}
use Rattle.std.proofs.lemmas.List.{append_assoc, get_or_past}
use Rattle.ent_types.specs.declared.kinds.Kind.{Kind}
use Rattle.ent_types.specs.declared.kinds.Kind.TheVariants.{Plain, Tag, Shared, Cleanup, Buffer}
use Rattle.ent_types.specs.declared.type_info.TypeInfo.{TypeInfo}
use Rattle.ent_types.specs.Types.{is_shared, is_buffer, has_shape, is_lawful_type}
use Rattle.ent_types.specs.Registries.{type_at, plain_tag, IsLawfulRegistry}
use Rattle.ent_types.proofs.LawfulTypes.{is_lawful_type-at}
use Rattle.ent_types.specs.TypeSets.{has_type, IsRisingFrom, IsRisingBelow}
use Rattle.chunk_block.specs.Pieces.{Place, AreSmall}
use Rattle.chunk_block.specs.Blocks.{BlockType, type_of, shape_of, new_place, new_places, new_types, AllSuit, place_types, AreDistinct, IsSound, IsWhole}

-- an element of a buffer type has 1 to 8 values
pub buffer_width : (t : TypeInfo) → is_lawful_type t ≡ true → is_buffer t.kind ≡ true → (1 ≤ length t.fields) × (length t.fields ≤ 8)
unfolding is_lawful_type
buffer_width t lawful is = by t.kind (and_parts _ _ lawful).0 is
  where
    by : (kind : Kind) → has_shape kind t.fields ≡ true → is_buffer kind ≡ true → (1 ≤ length t.fields) × (length t.fields ≤ 8)
    by Plain h is = absurd (cc is)
    by Tag h is = absurd (cc is)
    by Shared h is = absurd (cc is)
    by Cleanup h is = absurd (cc is)
    by Buffer h is =
        let parts = and_parts (nat_le 1 (length t.fields)) (nat_le (length t.fields) 8) h in
        (leb-true 1 (length t.fields) parts.0, leb-true (length t.fields) 8 parts.1)

pub width_at : (types : List TypeInfo) → IsLawfulRegistry types → (n : ℕ) → is_buffer (type_at types n).kind ≡ true → (1 ≤ length (type_at types n).fields) × (length (type_at types n).fields ≤ 8)
width_at types lawful n is =
    elim (cases_lt n (length types)) [
      | inl within ↦ buffer_width (type_at types n) (is_lawful_type-at types lawful n within) is
      | inr past ↦ absurd (cc (sym (ap (λ (t : TypeInfo). is_buffer t.kind) (get_or_past types n (plain_tag []) past)) ∙ is))
    ]

-- the places so far, after one type more
pub added : (b : Bool) (ps rest : List Place) (p : Place) → cond b ps (ps ++ p ∷ []) ++ rest ≡ ps ++ (cond b [] (p ∷ []) ++ rest)
added true ps rest p = refl
added false ps rest p = append_assoc ps (p ∷ []) rest

pub types_new : (registry : List TypeInfo) (cap : ℕ) (ts : List ℕ) → map type_of (new_places registry cap ts) ≡ new_types registry ts
types_new registry cap [] = refl
types_new registry cap (t ∷ ts) = by (is_shared (type_at registry t).kind) (types_new registry cap ts)
  where
    by : (b : Bool) → map type_of (new_places registry cap ts) ≡ new_types registry ts
        → map type_of (cond b [] (new_place cap (shape_of registry t) ∷ []) ++ new_places registry cap ts) ≡ cond b [] (type_of (new_place cap (shape_of registry t)) ∷ []) ++ new_types registry ts
    by true rest = rest
    by false rest = ap (λ (xs : List BlockType). type_of (new_place cap (shape_of registry t)) ∷ xs) rest

suit_new : (registry : List TypeInfo) (cap : ℕ) (ts : List ℕ) → AllSuit 0 cap (new_places registry cap ts)
suit_new registry cap [] = tt
suit_new registry cap (t ∷ ts) = by (is_shared (type_at registry t).kind) (suit_new registry cap ts)
  where
    by : (b : Bool) → AllSuit 0 cap (new_places registry cap ts) → AllSuit 0 cap (cond b [] (new_place cap (shape_of registry t) ∷ []) ++ new_places registry cap ts)
    by true rest = rest
    by false rest = (record { same_shape = refl; same_capacity = refl; same_rows = refl }, rest)

small_new : (registry : List TypeInfo) (cap low : ℕ) (ts : List ℕ) → IsRisingFrom low 256 ts → AreSmall (new_places registry cap ts)
small_new registry cap low [] rising = tt
small_new registry cap low (t ∷ ts) rising = by (is_shared (type_at registry t).kind) (small_new registry cap (t + 1) ts rising.2)
  where
    by : (b : Bool) → AreSmall (new_places registry cap ts) → AreSmall (cond b [] (new_place cap (shape_of registry t) ∷ []) ++ new_places registry cap ts)
    by true rest = rest
    by false rest = (rising.1, rest)

none_below : (registry : List TypeInfo) (cap low s : ℕ) (ts : List ℕ) → s < low → IsRisingFrom low 256 ts → has_type (place_types (new_places registry cap ts)) s ≡ false
none_below registry cap low s [] below rising = refl
none_below registry cap low s (t ∷ ts) below rising =
    let least : low ≤ t = rising.0 in
    let under : s < t + 1 = omega arith in
    let other : t ≢ s = λ e. omega arith in
    by (is_shared (type_at registry t).kind) other (none_below registry cap (t + 1) s ts under rising.2)
  where
    by : (b : Bool) → t ≢ s → has_type (place_types (new_places registry cap ts)) s ≡ false
        → has_type (place_types (cond b [] (new_place cap (shape_of registry t) ∷ []) ++ new_places registry cap ts)) s ≡ false
    by true other rest = rest
    by false other rest = ap (λ b. b || has_type (place_types (new_places registry cap ts)) s) (ne_eqb t s other) ∙ rest

distinct_new : (registry : List TypeInfo) (cap low : ℕ) (ts : List ℕ) → IsRisingFrom low 256 ts → AreDistinct (place_types (new_places registry cap ts))
distinct_new registry cap low [] rising = tt
distinct_new registry cap low (t ∷ ts) rising =
    let under : t < t + 1 = omega arith in
    by (is_shared (type_at registry t).kind) (none_below registry cap (t + 1) t ts under rising.2) (distinct_new registry cap (t + 1) ts rising.2)
  where
    by : (b : Bool) → has_type (place_types (new_places registry cap ts)) t ≡ false → AreDistinct (place_types (new_places registry cap ts))
        → AreDistinct (place_types (cond b [] (new_place cap (shape_of registry t) ∷ []) ++ new_places registry cap ts))
    by true none rest = rest
    by false none rest = (none, rest)

pub sound_new : (registry : List TypeInfo) (n room cap : ℕ) (ts : List ℕ) → n ≡ 0 → cap ≤ 128 → cap ≤ room → IsRisingBelow 256 ts → IsSound n room cap [] (new_places registry cap ts)
sound_new registry n room cap ts none most reserved rising =
    rw none (record {
      few = omega arith;
      most = most;
      reserved = reserved;
      past = λ k past. refl;
      small = small_new registry cap 0 ts rising;
      distinct = distinct_new registry cap 0 ts rising;
      suit = suit_new registry cap ts;
    })

pub whole_new : (registry : List TypeInfo) (ts : List ℕ) → IsWhole (new_types registry ts)
whole_new registry [] = tt
whole_new registry (t ∷ ts) = by (is_shared (type_at registry t).kind) (whole_new registry ts)
  where
    by : (b : Bool) → IsWhole (new_types registry ts) → IsWhole (cond b [] (type_of (new_place 0 (shape_of registry t)) ∷ []) ++ new_types registry ts)
    by true rest = rest
    by false rest = (refl, rest)
