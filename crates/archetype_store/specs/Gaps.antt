-- Block order without the places of emptied blocks.
use Rattle.std.specs.Prelude.{ℕ, ◌≡◌, ◌+◌, List, [], ◌∷◌, map, Option, Some, None, option_map, slice_set}
use Rattle.std.proofs.Common.{zero, suc}
use Rattle.archetype_store.specs.declared.slots.Held.{Held}
use Rattle.archetype_store.specs.Slots.{slot_at}
use Rattle.archetype_store.specs.Homes.{HomeState}
use Rattle.archetype_store.specs.Inside.{rank_at}

-- how many of the first k places are taken
abbrev pub taken : ℕ → List (Option ℕ) → ℕ
taken zero os = 0
taken (suc k) [] = 0
taken (suc k) (None ∷ os) = taken k os
taken (suc k) (Some n ∷ os) = taken k os + 1

-- the slots with a rank for the block of a place
abbrev pub ranked : Option ℕ → ℕ → List (Option Held) → List (Option Held)
ranked None rank slots = slots
ranked (Some n) rank slots = slice_set slots n (option_map (λ (h : Held). record h { rank = rank }) (slot_at slots n))

-- the rank of the block of a place; 0 if there is none
abbrev pub rank_there : List (Option Held) → Option ℕ → ℕ
rank_there slots None = 0
rank_there slots (Some n) = rank_at slots n

abbrev pub reranked : List (Option Held) → List (Option ℕ) → HomeState → HomeState
reranked slots order home = record home { ranks = map (λ place. rank_there slots (slot_at order place)) home.ranks }

-- a block without its rank
abbrev pub unranked : Held → Held
unranked h = record h { rank = 0 }

abbrev pub all_unranked : List (Option Held) → List (Option Held)
all_unranked slots = map (option_map unranked) slots

-- each block has the rank that it has without the empty places; nothing else changed
pub record Renumbers (old new : List (Option Held)) (order : List (Option ℕ)) : Type 0 where
  pub same : all_unranked new ≡ all_unranked old
  pub ranks : (k n : ℕ) → slot_at order k ≡ Some n → rank_at new n ≡ taken k order
