-- Each operation keeps a world lawful.
use Rattle.std.proofs.Common.{◌≡◌, ◌≢◌, ℕ, suc, zero, ◌+◌, ◌-◌, ◌<◌, ◌≤◌, min, ◌⊎◌, inl, inr, nat_eq, Bool, true, false, cond, List, [], ◌∷◌, ◌++◌, map, length, Option, Some, None, refl, sym, ap, ◌∙◌, subst, arith, eq-eqb}
use Rattle.ent_types.specs.declared.entity.Entity.{Entity}
use Rattle.ent_types.specs.declared.limits.TheConstants.{MOST_ENTITIES, MOST_INDEXES}
use Rattle.ent_types.specs.declared.skip.Skip.TheVariants.{TooLarge, Full}
use Rattle.ent_types.specs.declared.type_info.TypeInfo.{TypeInfo}
use Rattle.ent_types.specs.declared.value.Value.{Value}
use Rattle.ent_types.specs.Fitting.{null_entity}
use Rattle.system_version.specs.Versions.{IsVersion}
use Rattle.world_model.specs.Members.{In}
use Rattle.world_model.specs.Part.{PartOf, part_type, same_entity, by_type}
use Rattle.world_model.specs.Row.{Cell, Row}
use Rattle.world_model.specs.World.{Home, Block, World}
use Rattle.world_model.specs.Found.{Found, placed_in, placed, is_of, found, alive_count}
use Rattle.world_model.specs.Ids.{take_id, give_id, room, next_id}
use Rattle.world_model.specs.Enter.{enter}
use Rattle.world_model.specs.Leave.{leave}
use Rattle.world_model.specs.Write.{rewrite}
use Rattle.world_model.specs.Operations.{Act, Operation, Create, On, Outcome, Skips, Keeps, Writes, Moves, Ends, Makes, sight, decide, decide_create, made, home_of, cells_of, apply, acted, operate}
use Rattle.world_model.specs.Lawful.{IsLawfulHome, AreLawfulCells, IsLawfulRow, IsLawfulBlock, IsLawful, HasRoomForParts, ActSuits, Suits}
use Rattle.world_laws.proofs.Perms.{Perm, perm_back, perm_length, perm_in}
use Rattle.world_laws.proofs.Members.{in_append, in_map, find_in, find_passes, only_one, length_map}
use Rattle.world_laws.proofs.Same.{entity_is}
use Rattle.world_laws.proofs.Types.{by_type_rises, in_by_type}
use Rattle.world_laws.proofs.Entering.{enter_perm}
use Rattle.world_laws.proofs.Leaving.{leave_perm}
use Rattle.world_laws.proofs.Writing.{put_in, rewrite_placed}
use Rattle.world_laws.proofs.Sound.{one_at_most, apply_sound}
use Rattle.world_laws.proofs.Decided.{IsFine, decide_fine, create_fine}
use Rattle.world_laws.proofs.Blocks.{enter_blocks, leave_blocks, rewrite_blocks}

module _ (registry : List TypeInfo) where
  abbrev pub AllRows : List Block → Type 0
  AllRows bs = (x : Found) → In x (placed bs) → IsLawfulRow registry x

  pub enter_rows : (c now : ℕ) (home : Home) (row : Row) (bs : List Block) → IsLawfulHome registry home → AreLawfulCells registry home.types row.cells → IsVersion row.entity.version
      → AllRows bs → AllRows (enter c now home row bs)
  enter_rows c now home row bs h cells v all x i = step (perm_in x (enter_perm c now home row bs) i)
    where
      step : In x (record { home = home; row = row } ∷ placed bs) → IsLawfulRow registry x
      step (inl e) = subst (IsLawfulRow registry) (sym e) (record { home = h; cells = cells; version = v })
      step (inr j) = all x j

-- the types of a row have room in a block
pub room_of_row : (capacity : List ℕ → ℕ) (now : ℕ) (bs : List Block) → ((b : Block) → In b bs → IsLawfulBlock capacity now b) → (x : Found) → In x (placed bs) → 1 ≤ capacity x.home.types
room_of_row capacity now [] all x i = absurd i
room_of_row capacity now (b ∷ bs) all x i = step (in_append x (placed_in b.home b.rows) (placed bs) i) (room_of_row capacity now bs (λ c j. all c (inr j)) x)
  where
    home_is : (rows : List Row) → In x (placed_in b.home rows) → x.home ≡ b.home
    home_is [] j = absurd j
    home_is (r ∷ rs) (inl e) = ap (λ (y : Found). y.home) e
    home_is (r ∷ rs) (inr j) = home_is rs j

    step : In x (placed_in b.home b.rows) ⊎ In x (placed bs) → (In x (placed bs) → 1 ≤ capacity x.home.types) → 1 ≤ capacity x.home.types
    step (inl j) rest =
        let g = all b (inl refl) in let s = g.some in let f = g.few in
        let same : capacity x.home.types ≡ capacity b.home.types = ap (λ (h : Home). capacity h.types) (home_is b.rows j) in
        omega arith
    step (inr j) rest = rest j

positive : (n : ℕ) → nat_eq n 0 ≡ false → 1 ≤ n
positive zero e = absurd (cc)
positive (suc n) e = omega arith

pub raised_version : (v : ℕ) → nat_eq v 4294967295 ≡ false → IsVersion v → IsVersion (v + 1)
raised_version v h a = let d = differ in let b = a.within in let c = a.from_one in record { from_one = omega arith; within = omega arith }
  where
    differ : v ≢ 4294967295
    differ g = let no_way : true ≡ false = sym (eq-eqb v 4294967295 g) ∙ h in cc

-- ---- what was decided, done

module _ (capacity : List ℕ → ℕ) (w : World) (l : IsLawful capacity w) where
  leave_rows : (e : Entity) (x : Found) → found e w.blocks ≡ Some x → AllRows w.registry (leave w.moment e w.blocks)
  leave_rows e x is y i = l.rows y (perm_in y (perm_back (leave_perm w.moment e x w.blocks (one_at_most w l.sound e) is)) (inr i))

  leave_length : (e : Entity) (x : Found) → found e w.blocks ≡ Some x → length (placed w.blocks) ≡ suc (length (placed (leave w.moment e w.blocks)))
  leave_length e x is = perm_length (leave_perm w.moment e x w.blocks (one_at_most w l.sound e) is)

  version_is : (e : Entity) (x : Found) → found e w.blocks ≡ Some x → IsVersion e.version
  version_is e x is =
      subst (λ (d : Entity). IsVersion d.version) (sym (entity_is e x.row.entity (find_passes (is_of e) x (placed w.blocks) is)))
      (l.rows x (find_in (is_of e) x (placed w.blocks) is)).version

  makes_lawful : (home : Home) (cells : List Cell) → IsLawfulHome w.registry home → AreLawfulCells w.registry home.types cells → 1 ≤ capacity home.types → nat_eq (room w) 0 ≡ false
      → IsLawful capacity (made capacity home cells w)
  makes_lawful home cells h c fits full = record {
    registry = l.registry;
    sound = apply_sound capacity null_entity (Makes home cells) w l.sound tt;
    made = made_few w.free (positive (room w) full);
    alive = (let n = perm_length (enter_perm (capacity home.types) w.moment home row w.blocks) in let r = positive (room w) full in omega arith);
    rows = enter_rows w.registry (capacity home.types) w.moment home row w.blocks h c (next_version w.free l.free) l.rows;
    blocks = enter_blocks capacity w.moment l.moment home row w.blocks fits l.blocks;
    free = free_left w.free l.free;
    first = l.first;
    moment = l.moment;
  }
    where
      row : Row
      row = record { entity = next_id w; cells = cells; dying = false }

      next_version : (free : List Entity) → ((e : Entity) → In e free → IsVersion e.version) → IsVersion (take_id free w.made w.first_entity_version).entity.version
      next_version [] all = l.first
      next_version (e ∷ es) all = all e (inl refl)

      free_left : (free : List Entity) → ((e : Entity) → In e free → IsVersion e.version) → (e : Entity) → In e (take_id free w.made w.first_entity_version).free → IsVersion e.version
      free_left [] all e i = absurd i
      free_left (d ∷ ds) all e i = all e (inr i)

      made_few : (free : List Entity) → 1 ≤ min (MOST_ENTITIES - length (placed w.blocks)) (length free + (MOST_INDEXES - w.made)) → (take_id free w.made w.first_entity_version).made ≤ MOST_INDEXES
      made_few [] r = omega arith
      made_few (e ∷ es) r = l.made

  apply_lawful : (e : Entity) (out : Outcome) (x : Found) → found e w.blocks ≡ Some x → (fits : HasRoomForParts capacity) → IsFine capacity w.registry fits (nat_eq (room w) 0) x.home out
      → IsLawful capacity (apply capacity w e out).world
  apply_lawful e (Skips cause) x is fits fine = l
  apply_lawful e Keeps x is fits fine = l
  apply_lawful e (Writes types cells dying) x is fits fine = record {
    registry = l.registry;
    sound = apply_sound capacity e (Writes types cells dying) w l.sound tt;
    made = l.made;
    alive = (let n = ap length (rewrite_placed w.moment types row w.blocks) ∙ length_map (put_in row) (placed w.blocks) in let a = l.alive in omega arith);
    rows = λ y i. rows y (subst (In y) (rewrite_placed w.moment types row w.blocks) i);
    blocks = rewrite_blocks capacity w.moment l.moment types row w.blocks l.blocks;
    free = l.free;
    first = l.first;
    moment = l.moment;
  }
    where
      row : Row
      row = record { entity = e; cells = cells; dying = dying }

      rows : (y : Found) → In y (map (put_in row) (placed w.blocks)) → IsLawfulRow w.registry y
      rows y i =
          let (z, j, eq) = in_map (put_in row) y (placed w.blocks) i in
          subst (IsLawfulRow w.registry) (sym eq) (step z j (same_entity e z.row.entity) refl)
        where
          step : (z : Found) → In z (placed w.blocks) → (b : Bool) → same_entity e z.row.entity ≡ b → IsLawfulRow w.registry (record { home = z.home; row = cond b row z.row })
          step z j true h =
              let same : z ≡ x = only_one (is_of e) z x (placed w.blocks) j h (one_at_most w l.sound e) is in
              record {
                home = (l.rows z j).home;
                cells = subst (λ (u : Found). AreLawfulCells w.registry u.home.types cells) (sym same) fine;
                version = version_is e x is;
              }
          step z j false h = l.rows z j
  apply_lawful e (Moves home cells dying) x is fits fine = record {
    registry = l.registry;
    sound = apply_sound capacity e (Moves home cells dying) w l.sound (x, is);
    made = l.made;
    alive = (let n = perm_length (enter_perm (capacity home.types) w.moment home row (leave w.moment e w.blocks)) in let m = leave_length e x is in let a = l.alive in omega arith);
    rows = enter_rows w.registry (capacity home.types) w.moment home row (leave w.moment e w.blocks) fine.0 fine.1 (version_is e x is) (leave_rows e x is);
    blocks = enter_blocks capacity w.moment l.moment home row (leave w.moment e w.blocks) fine.2 (leave_blocks capacity w.moment l.moment e w.blocks l.blocks);
    free = l.free;
    first = l.first;
    moment = l.moment;
  }
    where
      row : Row
      row = record { entity = e; cells = cells; dying = dying }
  apply_lawful e Ends x is fits fine = record {
    registry = l.registry;
    sound = apply_sound capacity e Ends w l.sound (x, is);
    made = l.made;
    alive = (let m = leave_length e x is in let a = l.alive in omega arith);
    rows = leave_rows e x is;
    blocks = leave_blocks capacity w.moment l.moment e w.blocks l.blocks;
    free = λ d i. given_version d (nat_eq e.version 4294967295) refl i;
    first = l.first;
    moment = l.moment;
  }
    where
      given_version : (d : Entity) (b : Bool) → nat_eq e.version 4294967295 ≡ b → In d (cond b w.free (record { index = e.index; version = e.version + 1 } ∷ w.free)) → IsVersion d.version
      given_version d true h i = l.free d i
      given_version d false h (inl eq) = subst (λ (c : Entity). IsVersion c.version) (sym eq) (raised_version e.version h (version_is e x is))
      given_version d false h (inr i) = l.free d i
  apply_lawful e (Makes home cells) x is fits fine = makes_lawful home cells fine.0 fine.1 fine.2 fine.3

  acted_lawful : HasRoomForParts capacity → (e : Entity) (a : Act Value) → ActSuits w.registry a → (o : Option Found) → found e w.blocks ≡ o → IsLawful capacity (acted capacity w e a o).world
  acted_lawful fits e a h None is = l
  acted_lawful fits e a h (Some x) is =
      let i = find_in (is_of e) x (placed w.blocks) is in
      apply_lawful e (decide (sight capacity w) x a) x is fits
      (decide_fine capacity w.registry fits (nat_eq (room w) 0) x (l.rows x i) (room_of_row capacity w.moment w.blocks l.blocks x i) a h)

  make_or_skip : (fits : HasRoomForParts capacity) (b c : Bool) (home : Home) (cells : List Cell)
      → IsFine capacity w.registry fits (nat_eq (room w) 0) home (cond b (Skips TooLarge) (cond c (Skips Full) (Makes home cells)))
      → IsLawful capacity (apply capacity w null_entity (cond b (Skips TooLarge) (cond c (Skips Full) (Makes home cells)))).world
  make_or_skip fits true c home cells fine = l
  make_or_skip fits false true home cells fine = l
  make_or_skip fits false false home cells fine = makes_lawful home cells fine.0 fine.1 fine.2 fine.3

pub operate_lawful : (capacity : List ℕ → ℕ) → HasRoomForParts capacity → (w : World) (o : Operation) → Suits w.registry o → IsLawful capacity w → IsLawful capacity (operate capacity w o).world
unfolding operate
operate_lawful capacity fits w (On e a) h l = acted_lawful capacity w l fits e a h (found e w.blocks) refl
operate_lawful capacity fits w (Create parts) h l =
    make_or_skip capacity w l fits (nat_eq (capacity (map part_type (by_type parts))) 0) (nat_eq (room w) 0) (home_of w.registry (by_type parts)) (cells_of w.registry (by_type parts))
    (create_fine capacity w.registry fits (nat_eq (room w) 0) (home_of w.registry (by_type parts)) (by_type parts) (λ p i. h.0 p (in_by_type p parts i)) (by_type_rises parts))
