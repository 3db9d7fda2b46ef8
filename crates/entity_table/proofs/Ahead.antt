-- Which entities come: the free ones from the top of the stack, and then fresh indexes in order.
use Rattle.std.proofs.Common.{◌≡◌, ℕ, zero, suc, ◌+◌, ◌-◌, ◌<◌, ◌≤◌, List, [], ◌∷◌, length, get_or, reverse, refl, ap, ◌∙◌, arith}
use Rattle.std.proofs.lemmas.List.{get_or-map, get_or-reverse, length-reverse}
use Rattle.ent_types.specs.declared.entity.Entity.{Entity}
use Rattle.entity_table.specs.Ids.{ahead_of}
use Rattle.entity_table.specs.Slots.{entity_at, free_of}

pub ahead_of-free : (k : ℕ) (free : List Entity) (made first : ℕ) (d : Entity) → k < length free → ahead_of k free made first ≡ get_or free k d
ahead_of-free k [] made first d h = absurd (omega arith)
ahead_of-free zero (e ∷ es) made first d h = refl
ahead_of-free (suc k) (e ∷ es) made first d h = ahead_of-free k es made first d (omega arith)

pub ahead_of-fresh : (k : ℕ) (free : List Entity) (made first : ℕ) → length free ≤ k → ahead_of k free made first ≡ record { index = made + (k - length free); version = first }
ahead_of-fresh zero [] made first h = ap (λ n. let e : Entity = record { index = n; version = first } in e) (omega arith)
ahead_of-fresh (suc k) [] made first h =
    ahead_of-fresh k [] (made + 1) first (omega arith) ∙ ap (λ n. let e : Entity = record { index = n; version = first } in e) (omega arith)
ahead_of-fresh zero (e ∷ es) made first h = absurd (omega arith)
ahead_of-fresh (suc k) (e ∷ es) made first h =
    ahead_of-fresh k es made first (omega arith) ∙ ap (λ n. let d : Entity = record { index = n; version = first } in d) (omega arith)

-- the free entity k places below the top
pub get_or-free_of : (versions stack : List ℕ) (k : ℕ) (d : Entity) → k < length stack → get_or (free_of versions stack) k d ≡ entity_at versions (get_or stack (length stack - 1 - k) 0)
get_or-free_of versions stack k d h =
    get_or-map (entity_at versions) (reverse stack) k 0 d (omega (arith, length-reverse stack)) ∙ ap (entity_at versions) (get_or-reverse stack k 0 h)
