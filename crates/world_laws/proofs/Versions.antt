-- Versions may stand for moments in each operation, since operations only copy the present one.
use Rattle.std.proofs.Common.{◌≡◌, ℕ, ◌+◌, Bool, true, false, not, ◌&&◌, cond, nat_eq, List, [], ◌∷◌, ◌++◌, map, filter, length, find, Option, Some, None, refl, sym, ap, ap₂, ◌∙◌, subst}
use Rattle.ent_types.specs.declared.entity.Entity.{Entity}
use Rattle.ent_types.specs.declared.skip.Skip.TheVariants.{NoEntity}
use Rattle.ent_types.specs.declared.value.Value.{Value}
use Rattle.ent_types.specs.Fitting.{null_entity}
use Rattle.ent_types.specs.TypeSets.{has_type}
use Rattle.system_version.specs.Versions.{version_of}
use Rattle.world_model.specs.Part.{by_type}
use Rattle.world_model.specs.Row.{Row}
use Rattle.world_model.specs.World.{Home, Mark, Block, World}
use Rattle.world_model.specs.Found.{Found, placed_in, placed, is_of, found, alive_count}
use Rattle.world_model.specs.Ids.{room_of, room, next_id, with_id_taken, with_id_given}
use Rattle.world_model.specs.Enter.{has_room, marks_at, enter, entered}
use Rattle.world_model.specs.Leave.{replaced, without_row, has_entity, left, no_rows, leave}
use Rattle.world_model.specs.Write.{marked, rewritten, rewrite}
use Rattle.world_model.specs.Operations.{Act, Operation, Create, On, Reply, Made, Done, Skipped, Answer, Outcome, Skips, Keeps, Writes, Moves, Ends, Makes, decide, decide_create, apply, sight, acted, operate}
use Rattle.world_model.specs.Versions.{mark_versions, block_versions, world_versions, answer_versions, IsLawfulCode}
use Rattle.world_model.specs.Lawful.{HasRoomForParts, Suits}
use Rattle.world_laws.proofs.Kept.{operate_lawful}

module _ (v : ℕ → ℕ) where
  abbrev pub turned : List Block → List Block
  turned bs = map (block_versions v) bs

  pub placed_turned : (bs : List Block) → placed (turned bs) ≡ placed bs
  placed_turned [] = refl
  placed_turned (b ∷ bs) = ap (λ xs. placed_in b.home b.rows ++ xs) (placed_turned bs)

  pub marks_turned : (now : ℕ) (types : List ℕ) → marks_at (v now) types ≡ map (mark_versions v) (marks_at now types)
  marks_turned now [] = refl
  marks_turned now (t ∷ ts) = ap (λ (ms : List Mark). record { type_id = t; moment = v now } ∷ ms) (marks_turned now ts)

  enter_turned : (capacity now : ℕ) (home : Home) (row : Row) (bs : List Block) → enter capacity (v now) home row (turned bs) ≡ turned (enter capacity now home row bs)
  unfolding enter
  enter_turned capacity now home row [] = ap (λ (ms : List Mark). (let b : Block = record { home = home; marks = ms; rows = row ∷ []; order = v now } in b) ∷ []) (marks_turned now home.types)
  enter_turned capacity now home row (b ∷ bs) = step (has_room capacity home b) (enter_turned capacity now home row bs)
    where
      step : (t : Bool) → enter capacity (v now) home row (turned bs) ≡ turned (enter capacity now home row bs)
          → cond t (entered (v now) row (block_versions v b) ∷ turned bs) (block_versions v b ∷ enter capacity (v now) home row (turned bs))
          ≡ turned (cond t (entered now row b ∷ bs) (b ∷ enter capacity now home row bs))
      step true rest = ap (λ (ms : List Mark). record b { marks = ms; rows = b.rows ++ row ∷ []; order = v now } ∷ turned bs) (marks_turned now b.home.types)
      step false rest = ap (λ (cs : List Block). block_versions v b ∷ cs) rest

  leave_turned : (now : ℕ) (e : Entity) (bs : List Block) → leave (v now) e (turned bs) ≡ turned (leave now e bs)
  unfolding leave
  leave_turned now e [] = refl
  leave_turned now e (b ∷ bs) = step (has_entity e b.rows) (leave_turned now e bs)
    where
      keeps : leave (v now) e (turned bs) ≡ turned (leave now e bs)
          → (c : Block) (t : Bool) → cond t (block_versions v c ∷ leave (v now) e (turned bs)) (leave (v now) e (turned bs)) ≡ turned (cond t (c ∷ leave now e bs) (leave now e bs))
      keeps rest c true = ap (λ (cs : List Block). block_versions v c ∷ cs) rest
      keeps rest c false = rest

      step : (t : Bool) → leave (v now) e (turned bs) ≡ turned (leave now e bs)
          → filter (λ (c : Block). not (no_rows c.rows)) (cond t (record (block_versions v b) { rows = without_row e b.rows; order = v now }) (block_versions v b) ∷ map (left (v now) e) (turned bs))
          ≡ turned (filter (λ (c : Block). not (no_rows c.rows)) (cond t (record b { rows = without_row e b.rows; order = now }) b ∷ map (left now e) bs))
      step true rest = keeps rest (record b { rows = without_row e b.rows; order = now }) (not (no_rows (without_row e b.rows)))
      step false rest = keeps rest b (not (no_rows b.rows))

  pub marked_turned : (now : ℕ) (types : List ℕ) (ms : List Mark) → marked (v now) types (map (mark_versions v) ms) ≡ map (mark_versions v) (marked now types ms)
  marked_turned now types [] = refl
  marked_turned now types (m ∷ ms) = ap₂ (λ (x : Mark) xs. x ∷ xs) (step (has_type types m.type_id)) (marked_turned now types ms)
    where
      step : (t : Bool) → cond t (record m { moment = v now }) (mark_versions v m) ≡ mark_versions v (cond t (record m { moment = now }) m)
      step true = refl
      step false = refl

  rewrite_turned : (now : ℕ) (types : List ℕ) (row : Row) (bs : List Block) → rewrite (v now) types row (turned bs) ≡ turned (rewrite now types row bs)
  unfolding rewrite
  rewrite_turned now types row [] = refl
  rewrite_turned now types row (b ∷ bs) = ap₂ (λ (c : Block) cs. c ∷ cs) (step (has_entity row.entity b.rows)) (rewrite_turned now types row bs)
    where
      step : (t : Bool) → cond t (record (block_versions v b) { rows = replaced row.entity row b.rows; marks = marked (v now) types (map (mark_versions v) b.marks) }) (block_versions v b)
          ≡ block_versions v (cond t (record b { rows = replaced row.entity row b.rows; marks = marked now types b.marks }) b)
      step true = ap (λ (ms : List Mark). record (block_versions v b) { rows = replaced row.entity row b.rows; marks = ms }) (marked_turned now types b.marks)
      step false = refl

  apply_turned : (capacity : List ℕ → ℕ) (w : World) (e : Entity) (out : Outcome) → apply capacity (world_versions v w) e out ≡ answer_versions v (apply capacity w e out)
  apply_turned capacity w e (Skips cause) = refl
  apply_turned capacity w e Keeps = refl
  apply_turned capacity w e (Writes types cells dying) =
      ap (λ (bs : List Block). (let a : Answer = record { world = record (world_versions v w) { blocks = bs }; reply = Done } in a))
      (rewrite_turned w.moment types (record { entity = e; cells = cells; dying = dying }) w.blocks)
  apply_turned capacity w e (Moves home cells dying) =
      ap (λ (bs : List Block). (let a : Answer = record { world = record (world_versions v w) { blocks = bs }; reply = Done } in a))
      (ap (enter (capacity home.types) (v w.moment) home (record { entity = e; cells = cells; dying = dying })) (leave_turned w.moment e w.blocks)
      ∙ enter_turned (capacity home.types) w.moment home (record { entity = e; cells = cells; dying = dying }) (leave w.moment e w.blocks))
  apply_turned capacity w e Ends =
      ap (λ (bs : List Block). (let a : Answer = record { world = with_id_given e (record (world_versions v w) { blocks = bs }); reply = Done } in a)) (leave_turned w.moment e w.blocks)
  apply_turned capacity w e (Makes home cells) =
      ap (λ (bs : List Block). (let a : Answer = record { world = record (with_id_taken (world_versions v w)) { blocks = bs }; reply = Made (next_id w) } in a))
      (enter_turned (capacity home.types) w.moment home (record { entity = next_id w; cells = cells; dying = false }) w.blocks)

  pub room_turned : (w : World) → room (world_versions v w) ≡ room w
  room_turned w = ap (λ xs. room_of (length xs) (length w.free) w.made) (placed_turned w.blocks)

  pub operate_turned : (capacity : List ℕ → ℕ) (w : World) (o : Operation) → operate capacity (world_versions v w) o ≡ answer_versions v (operate capacity w o)
  unfolding operate
  operate_turned capacity w (Create parts) =
      ap (λ n. apply capacity (world_versions v w) null_entity (decide_create (record { registry = w.registry; too_large = λ types. nat_eq (capacity types) 0; full = nat_eq n 0 }) (by_type parts))) (room_turned w)
      ∙ apply_turned capacity w null_entity (decide_create (sight capacity w) (by_type parts))
  operate_turned capacity w (On e a) =
      ap₂ (λ n o. on_found n o) (room_turned w) (ap (find (is_of e)) (placed_turned w.blocks))
      ∙ turned_found (found e w.blocks)
    where
      on_found : ℕ → Option Found → Answer
      on_found n None = record { world = world_versions v w; reply = Skipped NoEntity }
      on_found n (Some x) = apply capacity (world_versions v w) e (decide (record { registry = w.registry; too_large = λ types. nat_eq (capacity types) 0; full = nat_eq n 0 }) x a)

      turned_found : (o : Option Found) → on_found (room w) o ≡ answer_versions v (acted capacity w e a o)
      turned_found None = refl
      turned_found (Some x) = apply_turned capacity w e (decide (sight capacity w) x a)

-- a lawful world of the code stays one, and stands for the world after the operation
pub operate_lawful_code : (capacity : List ℕ → ℕ) → HasRoomForParts capacity → (code : World) (o : Operation) → Suits code.registry o → IsLawfulCode capacity code → IsLawfulCode capacity (operate capacity code o).world
operate_lawful_code capacity fits code o h l = record {
  first = l.first;
  world = (operate capacity l.world o).world;
  version = l.version;
  stands = ap (λ c. (operate capacity c o).world) l.stands ∙ ap (λ (a : Answer). a.world) (operate_turned (version_of l.first) capacity l.world o);
  lawful = operate_lawful capacity fits l.world o (subst_suits h) l.lawful;
}
  where
    subst_suits : Suits code.registry o → Suits l.world.registry o
    subst_suits s = subst (λ r. Suits r o) (ap (λ (c : World). c.registry) l.stands) s
