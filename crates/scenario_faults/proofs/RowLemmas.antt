-- Where not even one row fits into a block.
use Rattle.std.proofs.Common.{ℕ, ◌≡◌, ◌<◌, ◌≤◌, List, false, eqb, ltb, inl, inr, sym, arith, ◌∙◌}
use Rattle.std.proofs.lemmas.Bool.{cases_lt, lt-ltb, le-ltb, eq-eqb, ne_eqb}
use Rattle.std.proofs.lemmas.List.Sums.{sum_by-cons}
use Rattle.chunk_layout.specs.declared.rows.TheConstants.{COLUMN_ROOM}
use Rattle.chunk_layout.specs.Capacity.{block_bytes, capacity_of}
use Rattle.chunk_layout.proofs.Rounding.{block_bytes-mono}
use Rattle.chunk_layout.proofs.CapacityLemmas.{capacity_of-fits, capacity_of-greatest}

no_capacity : (sizes : List ℕ) → COLUMN_ROOM < block_bytes sizes 1 → capacity_of sizes ≡ 0
no_capacity sizes large =
    elim (cases_lt (capacity_of sizes) 1) [
      | inl none ↦ omega arith
      | inr some ↦ absurd (omega (arith, capacity_of-fits sizes, block_bytes-mono sizes 1 (capacity_of sizes) some))
    ]

some_capacity : (sizes : List ℕ) → block_bytes sizes 1 ≤ COLUMN_ROOM → eqb (capacity_of sizes) 0 ≡ false
some_capacity sizes small = ne_eqb (capacity_of sizes) 0 (λ e. omega (arith, e, capacity_of-greatest sizes 1 (omega arith) small))

-- the capacity is 0 exactly where the bytes of one row are too many: more rows take no fewer
pub no_room : (sizes : List ℕ) → eqb (capacity_of sizes) 0 ≡ ltb COLUMN_ROOM (block_bytes sizes 1)
no_room sizes =
    elim (cases_lt COLUMN_ROOM (block_bytes sizes 1)) [
      | inl large ↦ eq-eqb (capacity_of sizes) 0 (no_capacity sizes large) ∙ sym (lt-ltb COLUMN_ROOM (block_bytes sizes 1) large)
      | inr small ↦ some_capacity sizes small ∙ sym (le-ltb COLUMN_ROOM (block_bytes sizes 1) small)
    ]

pub ruleset rows = (no_room)

pub ruleset sums = (sum_by-cons)
