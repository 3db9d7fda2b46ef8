-- The part of a row that is changed.
use Rattle.std.proofs.Common.{◌≡◌, ℕ, zero, suc, ◌<◌, List, [], ◌∷◌, Some, length, set, slice_get, sym, ap, arith}
use Rattle.std.proofs.lemmas.Option.{none-some, same_Some}
use Rattle.command_record.specs.declared.command.CmdPart.{CmdPart}
use Rattle.command_record.specs.declared.command.CmdValue.{CmdValue}
use Rattle.command_record.specs.Changes.{values_at, changed, with_value_in}

-- a part that has a value is there
pub has_part : (parts : List CmdPart) (part at : ℕ) → at < length (values_at parts part) → part < length parts
has_part [] part at has = absurd (omega (arith, has))
has_part (p ∷ ps) zero at has = omega arith
has_part (p ∷ ps) (suc part) at has = let below = has_part ps part at has in omega (arith, below)

pub values_there : (parts : List CmdPart) (part : ℕ) (own : CmdPart) → slice_get parts part ≡ Some own → values_at parts part ≡ own.values
values_there [] part own there = absurd (none-some own there)
values_there (p ∷ ps) zero own there = ap (λ (q : CmdPart). q.values) (same_Some p own there)
values_there (p ∷ ps) (suc part) own there = values_there ps part own there

pub changed_there : (parts : List CmdPart) (part at : ℕ) (value : CmdValue) (own : CmdPart) → slice_get parts part ≡ Some own
    → set parts part (changed own at value) ≡ with_value_in parts part at value
changed_there [] part at value own there = absurd (none-some own there)
changed_there (p ∷ ps) zero at value own there = ap (λ q. changed q at value ∷ ps) (sym (same_Some p own there))
changed_there (p ∷ ps) (suc part) at value own there = ap (λ rest. p ∷ rest) (changed_there ps part at value own there)
