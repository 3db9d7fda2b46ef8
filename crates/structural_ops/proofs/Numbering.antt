-- Numbers of blocks: an entity whose home stays is in the block of the same number.
use Rattle.std.proofs.Common.{ℕ, ◌≡◌, ◌∙◌, ◌⊎◌, inl, inr, Bool, true, false, ◌||◌, cond, refl, sym, ap, ap₂, subst, List, [], ◌∷◌, Option, Some, None, option_map, is_some}
use Rattle.std.proofs.lemmas.List.{append-nil}
use Rattle.ent_types.specs.declared.entity.Entity.{Entity}
use Rattle.ent_types.specs.declared.type_info.TypeInfo.{TypeInfo}
use Rattle.entity_table.specs.declared.table.Place.{Place}
use Rattle.entity_table.specs.Table.{Table, place_of}
use Rattle.world_model.specs.Part.{same_entity}
use Rattle.world_model.specs.Row.{Row}
use Rattle.world_model.specs.World.{Home, Block, World}
use Rattle.world_model.specs.Found.{Found, found}
use Rattle.world_model.specs.Leave.{has_entity, replaced}
use Rattle.world_model.specs.Operations.{written}
use Rattle.world_model.specs.Write.{marked, rewritten, rewrite}
use Rattle.world_laws.proofs.Writing.{put_same}
use Rattle.archetype_store.specs.Stores.{Numbered}
use Rattle.world_places.specs.Placing.{IsPlaced, world_blocks, numbers_of, number_in}
use Rattle.world_places.proofs.Looking.{alive_is}
use Rattle.world_places.proofs.Tables.{entity_cases}
use Rattle.world_places.proofs.Whereabouts.{number_is}
use Rattle.structural_ops.specs.Worlds.{WorldState, Becomes, Grows, KeepsNumbers, Stays, WritesIn}

-- ---- of blocks

abbrev pub home_at : List Numbered → Entity → Option Home
home_at blocks e = option_map (λ (x : Found). x.home) (found e (world_blocks blocks))

abbrev pub number_at : List Numbered → Entity → Option ℕ
number_at blocks e = number_in (world_blocks blocks) (numbers_of blocks) e

abbrev pub block_in : Table → Entity → Option ℕ
block_in table e = option_map (λ (p : Place). p.block) (place_of table e)

-- what `KeepsNumbers` says of worlds with these blocks
abbrev pub Keeps : List Numbered → List Numbered → Type 0
Keeps old new = (e : Entity) → home_at new e ≡ home_at old e → number_at new e ≡ number_at old e

module _ {registry later : List TypeInfo} {old new : List Numbered} {before after : Table} (was : IsPlaced registry old before) (is : IsPlaced later new after) where
  number_stays : (e : Entity) → block_in after e ≡ block_in before e → number_at new e ≡ number_at old e
  number_stays e same = number_is is e ∙ same ∙ sym (number_is was e)

  -- each entity has a place in the same block
  pub places_keep : ((e : Entity) → block_in after e ≡ block_in before e) → Keeps old new
  places_keep same e stays = number_stays e (same e)

  -- each but one, and that one gets another home
  pub others_keep : (e : Entity) → (home_at new e ≡ home_at old e → ⊥) → ((d : Entity) → (d ≡ e → ⊥) → block_in after d ≡ block_in before d) → Keeps old new
  others_keep e apart others d stays = by (entity_cases d e)
    where
      by : (d ≡ e) ⊎ (d ≡ e → ⊥) → number_at new d ≡ number_at old d
      by (inl same) = absurd (apart (subst (λ a. home_at new a ≡ home_at old a) same stays))
      by (inr other) = number_stays d (others d other)

  -- an entity that is made or ends gets another home
  pub life_apart : (e : Entity) → (is_some (place_of after e) ≡ is_some (place_of before e) → ⊥) → home_at new e ≡ home_at old e → ⊥
  life_apart e apart same = apart (alive_is is e ∙ sym (some_home (found e (world_blocks new))) ∙ ap is_some same ∙ some_home (found e (world_blocks old)) ∙ sym (alive_is was e))
    where
      some_home : (o : Option Found) → is_some (option_map (λ (x : Found). x.home) o) ≡ is_some o
      some_home None = refl
      some_home (Some x) = refl

-- ---- of worlds

-- a row that is written in its place stays there
module _ (e : Entity) (now : ℕ) (types : List ℕ) (row : Row) where
  has_replaced : (home : Home) (rows : List Row) → has_entity e (replaced row.entity row rows) ≡ has_entity e rows
  has_replaced home [] = refl
  has_replaced home (r ∷ rs) =
      ap₂ (λ (a b : Bool). a || b) (put_same row (same_entity e) (record { home = home; row = r })) (has_replaced home rs)

  has_rewritten : (b : Block) → has_entity e (rewritten now types row b).rows ≡ has_entity e b.rows
  has_rewritten b = by (has_entity row.entity b.rows)
    where
      by : (t : Bool) → has_entity e (cond t (record b { rows = replaced row.entity row b.rows; marks = marked now types b.marks }) b).rows ≡ has_entity e b.rows
      by true = has_replaced b.home b.rows
      by false = refl

  number_rewritten : (bs : List Block) (ns : List ℕ) → number_in (rewrite now types row bs) ns e ≡ number_in bs ns e
  unfolding rewrite
  number_rewritten [] ns = refl
  number_rewritten (b ∷ bs) [] = refl
  number_rewritten (b ∷ bs) (n ∷ ns) = ap₂ (λ (t : Bool) (o : Option ℕ). cond t (Some n) o) (has_rewritten b) (number_rewritten bs ns)

pub grows_none : (old new : List (List ℕ)) → new ≡ old → Grows old new
grows_none old new same = record { more = []; are = same ∙ sym (append-nil old) }

module _ (old new : WorldState) where
  pub stays_keep : new.world ≡ old.world → new.numbers ≡ old.numbers → KeepsNumbers old new
  stays_keep world numbers e stays = ap₂ (λ (w : World) (ns : List ℕ). number_in w.blocks ns e) world numbers

  pub stays_become : Stays old new → Becomes old new old.world
  stays_become stays = record { world_is = stays.world; numbers = stays_keep stays.world stays.numbers; archetypes = stays.archetypes }

  module _ (types : List ℕ) (row : Row) (writes : WritesIn old new types row) where
    pub writes_keep : KeepsNumbers old new
    writes_keep e stays =
        ap₂ (λ (w : World) (ns : List ℕ). number_in w.blocks ns e) writes.world writes.numbers ∙ number_rewritten e old.world.moment types row old.world.blocks old.numbers

    pub writes_become : Becomes old new (written types row old.world)
    writes_become = record { world_is = writes.world; numbers = writes_keep; archetypes = grows_none old.archetypes new.archetypes writes.archetypes }

-- nothing changed
pub becomes_self : (w : WorldState) → Becomes w w w.world
becomes_self w = record { world_is = refl; numbers = λ e stays. refl; archetypes = grows_none w.archetypes w.archetypes refl }
