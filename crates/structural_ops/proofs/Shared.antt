-- Parts of shared types.
use Rattle.std.proofs.Common.{ℕ, ◌≡◌, refl, ap, List, [], ◌∷◌, map}
use Rattle.ent_types.specs.declared.value.Part.{Part}
use Rattle.ent_types.specs.declared.value.Value.{Value}
use Rattle.world_model.specs.Part.{PartOf, part_type, part_of as seen}
use Rattle.world_rows.specs.Rows.{part_from}

pub shared_are : (parts : List (PartOf Value)) (ts : List ℕ) → map part_type (map (part_from parts) ts) ≡ ts
shared_are parts [] = refl
shared_are parts (t ∷ ts) = ap (λ us. t ∷ us) (shared_are parts ts)

pub seen_types : (ps : List Part) → map (λ (p : Part). part_type (seen p)) ps ≡ map part_type (map seen ps)
seen_types [] = refl
seen_types (p ∷ ps) = ap (λ ts. p.ty.0 ∷ ts) (seen_types ps)
