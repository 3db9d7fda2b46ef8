-- What a lawful world of the code has, as the lawful world that it stands for.
use Rattle.std.proofs.Common.{ℕ, ◌≡◌, ◌+◌, ◌≤◌, ◌∙◌, nat_lt, sym, ap, ap₂, refl, subst, List, [], ◌∷◌, length, map}
use Rattle.ent_types.specs.declared.limits.TheConstants.{MOST_ENTITIES}
use Rattle.ent_types.specs.Registries.{IsLawfulRegistry}
use Rattle.system_version.specs.Versions.{version_of}
use Rattle.world_model.specs.Members.{In, one_if, tally}
use Rattle.world_model.specs.World.{Block, Mark, World, mark_type}
use Rattle.world_model.specs.Found.{Found, placed, has_index, alive_count}
use Rattle.world_model.specs.Lawful.{IsLawfulRow, IsSound, count_at, is_free_at}
use Rattle.world_model.specs.Versions.{mark_versions, block_versions, IsLawfulCode}
use Rattle.world_laws.proofs.Members.{in_map}
use Rattle.world_laws.proofs.Kept.{room_of_row}
use Rattle.world_laws.proofs.Versions.{placed_turned}

same_types : (v : ℕ → ℕ) (ms : List Mark) → map mark_type (map (mark_versions v) ms) ≡ map mark_type ms
same_types v [] = refl
same_types v (m ∷ ms) = ap (λ ts. m.type_id ∷ ts) (same_types v ms)

-- there is one mark for each type
pub record IsMarked (b : Block) : Type 0 where
  pub marked : map mark_type b.marks ≡ b.home.types
  pub some : 1 ≤ length b.rows

module _ (capacity : List ℕ → ℕ) (code : World) (l : IsLawfulCode capacity code) where
  abbrev v : ℕ → ℕ
  v = version_of l.first

  pub code_placed : placed code.blocks ≡ placed l.world.blocks
  code_placed = ap (λ (w : World). placed w.blocks) l.stands ∙ placed_turned v l.world.blocks

  pub code_registry : IsLawfulRegistry code.registry
  code_registry = subst IsLawfulRegistry (sym (ap (λ (w : World). w.registry) l.stands)) l.lawful.registry

  pub code_rows : (x : Found) → In x (placed code.blocks) → IsLawfulRow code.registry x
  code_rows x i = subst (λ r. IsLawfulRow r x) (sym (ap (λ (w : World). w.registry) l.stands)) (l.lawful.rows x (subst (In x) code_placed i))

  -- a block has room for a row of these types
  pub code_room : (x : Found) → In x (placed code.blocks) → 1 ≤ capacity x.home.types
  code_room x i = room_of_row capacity l.world.moment l.world.blocks l.lawful.blocks x (subst (In x) code_placed i)

  pub code_blocks : (b : Block) → In b code.blocks → IsMarked b
  code_blocks b i = from (in_map (block_versions v) b l.world.blocks (subst (In b) (ap (λ (w : World). w.blocks) l.stands) i))
    where
      from : ((c : Block) × In c l.world.blocks × (b ≡ block_versions v c)) → IsMarked b
      from (c, j, e) =
          let lawful = l.lawful.blocks c j in
          subst IsMarked (sym e) (record { marked = same_types v c.marks ∙ lawful.marked; some = lawful.some })

  pub code_alive : alive_count code ≤ MOST_ENTITIES
  code_alive = subst (λ n. n ≤ MOST_ENTITIES) (sym (ap length code_placed)) l.lawful.alive

  pub code_sound : IsSound code
  code_sound index =
      subst (λ n. n ≤ one_if (nat_lt index code.made)) (sym counts) (subst (λ m. count_at index l.world ≤ one_if (nat_lt index m)) (sym (ap (λ (w : World). w.made) l.stands)) (l.lawful.sound index))
    where
      counts : count_at index code ≡ count_at index l.world
      counts = ap₂ (λ xs es. tally (has_index index) xs + tally (is_free_at index) es) code_placed (ap (λ (w : World). w.free) l.stands)
