-- The word that a note prints for the cause of a skip.
use Rattle.std.specs.Prelude.{ℕ, List, codes}
use Rattle.ent_types.specs.declared.skip.Skip.{Skip}
use Rattle.ent_types.specs.declared.skip.Skip.TheVariants.{NoEntity, NoComponent, TooLarge, Full, NotEnableable, TooLong}

unfoldable pub skip_name : Skip → List ℕ
skip_name NoEntity = codes "NoEntity"
skip_name NoComponent = codes "NoComponent"
skip_name TooLarge = codes "TooLarge"
skip_name Full = codes "Full"
skip_name NotEnableable = codes "NotEnableable"
skip_name TooLong = codes "TooLong"
