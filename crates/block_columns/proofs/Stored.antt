-- The values of a column from its numbers or references, after some of these were written.
use Rattle.std.proofs.Common.{ℕ, ℤ, pos, ◌≡◌, ◌<◌, ◌∙◌, Bool, true, false, cond, sym, ap, refl, subst, List, length, take, drop, ◌++◌, map, arith}
use Rattle.std.proofs.lemmas.List.{length-map, get_or-map, ext_get_or}
use Rattle.std.proofs.lemmas.Grind.{common_steps}
use Rattle.ent_types.specs.declared.entity.Entity.{Entity}
use Rattle.ent_types.specs.declared.value.Value.TheVariants.{Int, Ref}
use Rattle.ent_types.specs.declared.kinds.FieldKind.{FieldKind}
use Rattle.ent_types.specs.declared.kinds.FieldKind.TheVariants.{I32, I64, Ref as KindRef}
use Rattle.ent_types.specs.Fitting.{fit, fit_number, null_entity}
use Rattle.enable_bits.specs.Masks.{has}
use Rattle.block_columns.specs.Places.{at_places}
use Rattle.block_columns.specs.Columns.{HoldsNumbers, HoldsReferences, number_at, reference_at, with_number, with_reference, IsNumberKind}
use Rattle.block_columns.proofs.Lists.{length-at_places, get_or-at_places}

-- a list that is written over another of its length
pub refilled : {A : Type 0} (n : ℕ) (xs ys : List A) → n ≡ length ys → length xs ≡ length ys → take n (ys ++ drop (length ys) xs) ≡ ys
refilled n xs ys = grind (arith, common_steps)

kept_number : (kind : FieldKind) → IsNumberKind kind → (b : Bool) (z y : ℤ) → Int (cond b (fit_number kind z) y) ≡ cond b (fit kind (Int z)) (Int y)
kept_number I32 is true z y = refl
kept_number I32 is false z y = refl
kept_number I64 is true z y = refl
kept_number I64 is false z y = refl
kept_number KindRef is b z y = absurd is

pub numbers_stored : (kind : FieldKind) (rows : List ℕ) (zs old new : List ℤ) → IsNumberKind kind → HoldsNumbers new (length old) (λ k. cond (has rows k) (fit_number kind (number_at k zs)) (number_at k old))
    → map (λ z. Int z) new ≡ at_places (with_number rows kind zs) 0 (map (λ z. Int z) old)
numbers_stored kind rows zs old new is holds =
    let size = length-map old (λ z. Int z) in
    ext_get_or (Int (pos 0)) _ _ (length-map new (λ z. Int z) ∙ (holds.size ∙ (sym size ∙ sym (length-at_places (with_number rows kind zs) 0 (map (λ z. Int z) old))))) (λ k h.
    let short : k < length new = subst (λ m. k < m) (length-map new (λ z. Int z)) h in
    let there : k < length old = subst (λ m. k < m) holds.size short in
    let under : k < length (map (λ z. Int z) old) = subst (λ m. k < m) (sym size) there in
    get_or-map (λ z. Int z) new k (pos 0) (Int (pos 0)) short
    ∙ (ap (λ z. Int z) (holds.numbers k there)
    ∙ (kept_number kind is (has rows k) (number_at k zs) (number_at k old)
    ∙ (ap (λ v. with_number rows kind zs k v) (sym (get_or-map (λ z. Int z) old k (pos 0) (Int (pos 0)) there))
    ∙ sym (get_or-at_places (with_number rows kind zs) (map (λ z. Int z) old) k (Int (pos 0)) under)))))

kept_reference : (b : Bool) (e f : Entity) → Ref (cond b e f) ≡ cond b (Ref e) (Ref f)
kept_reference true e f = refl
kept_reference false e f = refl

pub references_stored : (rows : List ℕ) (es old new : List Entity) → HoldsReferences new (length old) (λ k. cond (has rows k) (reference_at k es) (reference_at k old))
    → map (λ e. Ref e) new ≡ at_places (with_reference rows es) 0 (map (λ e. Ref e) old)
references_stored rows es old new holds =
    let size = length-map old (λ e. Ref e) in
    ext_get_or (Ref null_entity) _ _ (length-map new (λ e. Ref e) ∙ (holds.size ∙ (sym size ∙ sym (length-at_places (with_reference rows es) 0 (map (λ e. Ref e) old))))) (λ k h.
    let short : k < length new = subst (λ m. k < m) (length-map new (λ e. Ref e)) h in
    let there : k < length old = subst (λ m. k < m) holds.size short in
    let under : k < length (map (λ e. Ref e) old) = subst (λ m. k < m) (sym size) there in
    get_or-map (λ e. Ref e) new k null_entity (Ref null_entity) short
    ∙ (ap (λ e. Ref e) (holds.references k there)
    ∙ (kept_reference (has rows k) (reference_at k es) (reference_at k old)
    ∙ (ap (λ v. with_reference rows es k v) (sym (get_or-map (λ e. Ref e) old k null_entity (Ref null_entity) there))
    ∙ sym (get_or-at_places (with_reference rows es) (map (λ e. Ref e) old) k (Ref null_entity) under)))))
