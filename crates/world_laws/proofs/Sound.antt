-- Each operation keeps the indexes of alive and free entities distinct and below the number made.
use Rattle.std.proofs.Common.{◌≡◌, ℕ, ◌+◌, ◌≤◌, Bool, true, false, cond, nat_eq, nat_lt, List, [], ◌∷◌, Option, Some, None, refl, sym, ap, ◌∙◌, arith, eqb-true, ltb-true, lt-ltb}
use Rattle.std.proofs.lemmas.Bool.{and_parts}
use Rattle.ent_types.specs.declared.entity.Entity.{Entity}
use Rattle.world_model.specs.Members.{one_if, tally}
use Rattle.world_model.specs.Row.{Row, Cell}
use Rattle.world_model.specs.World.{Home, World}
use Rattle.world_model.specs.Found.{Found, placed, is_of, found, has_index}
use Rattle.world_model.specs.Ids.{take_id, give_id, next_id}
use Rattle.world_model.specs.Enter.{enter}
use Rattle.world_model.specs.Leave.{leave}
use Rattle.world_model.specs.Write.{rewrite}
use Rattle.world_model.specs.Operations.{Outcome, Skips, Keeps, Writes, Moves, Ends, Makes, written, moved_to, ended, made, apply}
use Rattle.world_model.specs.Lawful.{is_free_at, IsSound}
use Rattle.world_laws.proofs.Perms.{perm_tally}
use Rattle.world_laws.proofs.Members.{find_passes, tally_more, tally_map}
use Rattle.world_laws.proofs.Same.{entity_is}
use Rattle.world_laws.proofs.Entering.{enter_tally}
use Rattle.world_laws.proofs.Leaving.{leave_perm}
use Rattle.world_laws.proofs.Writing.{put_in, put_same, rewrite_placed}

-- ---- what soundness says of entities

index_same : (e : Entity) (x : Found) → is_of e x ≡ true → has_index e.index x ≡ true
index_same e x same = (and_parts (nat_eq e.index x.row.entity.index) (nat_eq e.version x.row.entity.version) same).0

pub one_at_most : (w : World) → IsSound w → (e : Entity) → tally (is_of e) (placed w.blocks) ≤ 1
one_at_most w sound e =
    let more = tally_more (is_of e) (has_index e.index) (index_same e) (placed w.blocks) in
    let few = sound e.index in
    let top = most (nat_lt e.index w.made) in
    omega arith
  where
    most : (b : Bool) → one_if b ≤ 1
    most true = omega arith
    most false = omega arith

-- ---- the parts of operations

left_tally : (i now : ℕ) (e : Entity) (x : Found) (w : World) → IsSound w → found e w.blocks ≡ Some x
    → tally (has_index i) (placed w.blocks) ≡ one_if (nat_eq i e.index) + tally (has_index i) (placed (leave now e w.blocks))
left_tally i now e x w sound is =
    perm_tally (has_index i) (leave_perm now e x w.blocks (one_at_most w sound e) is)
    ∙ ap (λ (d : Entity). one_if (nat_eq i d.index) + tally (has_index i) (placed (leave now e w.blocks)))
    (sym (entity_is e x.row.entity (find_passes (is_of e) x (placed w.blocks) is)))

given_tally : (i : ℕ) (e : Entity) (free : List Entity) → tally (is_free_at i) (give_id e free) ≤ one_if (nat_eq i e.index) + tally (is_free_at i) free
given_tally i e free = step (nat_eq e.version 4294967295)
  where
    step : (b : Bool) → tally (is_free_at i) (cond b free (record { index = e.index; version = e.version + 1 } ∷ free)) ≤ one_if (nat_eq i e.index) + tally (is_free_at i) free
    step true = omega arith
    step false = omega arith

pub fresh_fits : (i m t : ℕ) → t ≤ one_if (nat_lt i m) → one_if (nat_eq i m) + t ≤ one_if (nat_lt i (m + 1))
fresh_fits i m t fits = step (nat_eq i m) (nat_lt i m) refl refl fits
  where
    step : (b c : Bool) → nat_eq i m ≡ b → nat_lt i m ≡ c → t ≤ one_if c → one_if b + t ≤ one_if (nat_lt i (m + 1))
    step true true same less fits = let s = eqb-true i m same in let l = ltb-true i m less in absurd (omega arith)
    step true false same less fits = let s = eqb-true i m same in rw (lt-ltb i (m + 1) (omega arith)) (omega arith)
    step false true same less fits = let l = ltb-true i m less in rw (lt-ltb i (m + 1) (omega arith)) (omega arith)
    step false false same less fits = omega arith

pub written_sound : (types : List ℕ) (row : Row) (w : World) → IsSound w → IsSound (written types row w)
written_sound types row w sound i =
    let same : tally (has_index i) (placed (rewrite w.moment types row w.blocks)) ≡ tally (has_index i) (placed w.blocks) =
    ap (tally (has_index i)) (rewrite_placed w.moment types row w.blocks)
    ∙ tally_map (has_index i) (put_in row) (λ x. put_same row (λ d. nat_eq i d.index) x) (placed w.blocks) in
    let s = sound i in
    omega arith

moved_sound : (capacity : List ℕ → ℕ) (home : Home) (row : Row) (x : Found) (w : World) → IsSound w → found row.entity w.blocks ≡ Some x → IsSound (moved_to capacity home row w)
moved_sound capacity home row x w sound is i =
    let out = left_tally i w.moment row.entity x w sound is in
    let back = enter_tally (has_index i) (capacity home.types) w.moment home row (leave w.moment row.entity w.blocks) in
    let s = sound i in
    omega arith

ended_sound : (e : Entity) (x : Found) (w : World) → IsSound w → found e w.blocks ≡ Some x → IsSound (ended e w)
ended_sound e x w sound is i =
    let out = left_tally i w.moment e x w sound is in
    let back = given_tally i e w.free in
    let s = sound i in
    omega arith

pub made_sound : (capacity : List ℕ → ℕ) (home : Home) (cells : List Cell) (w : World) → IsSound w → IsSound (made capacity home cells w)
made_sound capacity home cells w sound i = step w.free (sound i)
  where
    row : Entity → Row
    row e = record { entity = e; cells = cells; dying = false }

    step : (free : List Entity) → tally (has_index i) (placed w.blocks) + tally (is_free_at i) free ≤ one_if (nat_lt i w.made)
        → tally (has_index i) (placed (enter (capacity home.types) w.moment home (row (take_id free w.made w.first_entity_version).entity) w.blocks))
        + tally (is_free_at i) (take_id free w.made w.first_entity_version).free
        ≤ one_if (nat_lt i (take_id free w.made w.first_entity_version).made)
    step [] s =
        let more = enter_tally (has_index i) (capacity home.types) w.moment home (row (record { index = w.made; version = w.first_entity_version })) w.blocks in
        let fits = fresh_fits i w.made (tally (has_index i) (placed w.blocks)) (omega arith) in
        omega arith
    step (e ∷ es) s = let more = enter_tally (has_index i) (capacity home.types) w.moment home (row e) w.blocks in omega arith

-- ---- what was decided, done

-- a row that moves or ends is there
abbrev pub NeedsRow : Outcome → Type 0 → Type 0
NeedsRow (Skips cause) P = Unit {0}
NeedsRow Keeps P = Unit {0}
NeedsRow (Writes types cells dying) P = Unit {0}
NeedsRow (Moves home cells dying) P = P
NeedsRow Ends P = P
NeedsRow (Makes home cells) P = Unit {0}

abbrev pub Has : World → Entity → Type 0
Has w e = (x : Found) × (found e w.blocks ≡ Some x)

pub apply_sound : (capacity : List ℕ → ℕ) (e : Entity) (out : Outcome) (w : World) → IsSound w → NeedsRow out (Has w e) → IsSound (apply capacity w e out).world
apply_sound capacity e (Skips cause) w sound h = sound
apply_sound capacity e Keeps w sound h = sound
apply_sound capacity e (Writes types cells dying) w sound h = written_sound types (record { entity = e; cells = cells; dying = dying }) w sound
apply_sound capacity e (Moves home cells dying) w sound h = moved_sound capacity home (record { entity = e; cells = cells; dying = dying }) h.0 w sound h.1
apply_sound capacity e Ends w sound h = ended_sound e h.0 w sound h.1
apply_sound capacity e (Makes home cells) w sound h = made_sound capacity home cells w sound
