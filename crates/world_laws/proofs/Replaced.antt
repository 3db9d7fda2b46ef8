-- The next moment, and other blocks with the same entities, keep a world lawful.
use Rattle.std.proofs.Common.{◌≡◌, ℕ, ◌+◌, ◌≤◌, nat_eq, nat_lt, List, [], ◌∷◌, map, length, refl, sym, ap, ◌∙◌, subst, arith}
use Rattle.ent_types.specs.declared.entity.Entity.{Entity}
use Rattle.ent_types.specs.declared.limits.TheConstants.{MOST_ENTITIES}
use Rattle.system_version.specs.Versions.{version_of, next_version}
use Rattle.system_version.proofs.VersionLemmas.{version_of-next}
use Rattle.world_model.specs.Members.{In, one_if, tally}
use Rattle.world_model.specs.World.{Block, World, raised}
use Rattle.world_model.specs.Found.{Found, placed, has_index}
use Rattle.world_model.specs.Lawful.{IsPast, IsLawfulRow, IsLawfulBlock, IsLawful, is_free_at}
use Rattle.world_model.specs.Versions.{block_versions, world_versions, IsLawfulCode}
use Rattle.world_laws.proofs.Members.{length_map}

-- ---- later moments

pub later_past : (now m : ℕ) → IsPast now m → IsPast (now + 1) m
later_past now m h = let a = h.within in record { from_one = h.from_one; within = omega arith }

module _ (capacity : List ℕ → ℕ) where
  pub later_block : (now : ℕ) (b : Block) → IsLawfulBlock capacity now b → IsLawfulBlock capacity (now + 1) b
  later_block now b h = record {
    some = h.some;
    few = h.few;
    marked = h.marked;
    marks = λ m i. later_past now m.moment (h.marks m i);
    order = later_past now b.order h.order;
  }

  pub raised_lawful : (w : World) → IsLawful capacity w → IsLawful capacity (raised w)
  raised_lawful w h = record {
    registry = h.registry;
    sound = h.sound;
    made = h.made;
    alive = h.alive;
    rows = h.rows;
    blocks = λ b i. later_block w.moment b (h.blocks b i);
    free = h.free;
    first = h.first;
    moment = (let a = h.moment in omega arith);
  }

  pub raised_code : (code : World) → IsLawfulCode capacity code → IsLawfulCode capacity (record code { moment = next_version code.moment })
  raised_code code l = record {
    first = l.first;
    world = raised l.world;
    version = l.version;
    stands = ap (λ (w : World). record w { moment = next_version w.moment }) l.stands
        ∙ ap (λ n. record (world_versions (version_of l.first) l.world) { moment = n }) (sym (version_of-next l.first l.world.moment l.lawful.moment));
    lawful = raised_lawful l.world l.lawful;
  }

-- ---- other blocks

abbrev pub entity_of : Found → Entity
entity_of x = x.row.entity

indexes : (index : ℕ) (xs : List Found) → tally (has_index index) xs ≡ tally (is_free_at index) (map entity_of xs)
indexes index [] = refl
indexes index (x ∷ xs) = ap (λ n. one_if (nat_eq index x.row.entity.index) + n) (indexes index xs)

module _ (capacity : List ℕ → ℕ) where
  pub replaced_lawful : (w : World) (bs : List Block) → IsLawful capacity w → map entity_of (placed bs) ≡ map entity_of (placed w.blocks)
      → ((x : Found) → In x (placed bs) → IsLawfulRow w.registry x) → ((b : Block) → In b bs → IsLawfulBlock capacity w.moment b) → IsLawful capacity (record w { blocks = bs })
  replaced_lawful w bs h same rows blocks = record {
    registry = h.registry;
    sound = λ index.
        subst (λ n. n + tally (is_free_at index) w.free ≤ one_if (nat_lt index w.made))
        (indexes index (placed w.blocks) ∙ ap (tally (is_free_at index)) (sym same) ∙ sym (indexes index (placed bs))) (h.sound index);
    made = h.made;
    alive = subst (λ n. n ≤ MOST_ENTITIES) (sym (length_map entity_of (placed w.blocks)) ∙ ap length (sym same) ∙ length_map entity_of (placed bs)) h.alive;
    rows = rows;
    blocks = blocks;
    free = h.free;
    first = h.first;
    moment = h.moment;
  }

  pub replaced_code : (code : World) (l : IsLawfulCode capacity code) (bs : List Block) → map entity_of (placed bs) ≡ map entity_of (placed l.world.blocks)
      → ((x : Found) → In x (placed bs) → IsLawfulRow l.world.registry x) → ((b : Block) → In b bs → IsLawfulBlock capacity l.world.moment b)
      → IsLawfulCode capacity (record code { blocks = map (block_versions (version_of l.first)) bs })
  replaced_code code l bs same rows blocks = record {
    first = l.first;
    world = record (l.world) { blocks = bs };
    version = l.version;
    stands = ap (λ (w : World). record w { blocks = map (block_versions (version_of l.first)) bs }) l.stands;
    lawful = replaced_lawful l.world bs l.lawful same rows blocks;
  }
