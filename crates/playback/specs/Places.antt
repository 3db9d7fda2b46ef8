-- Where entries are kept: the place of the chain, and the place in it.
use Rattle.std.specs.Prelude.{◌≡◌, ℕ, ◌<◌, Bool, ◌&&◌, nat_lt, if◌then◌else◌, List, [], ◌∷◌, map, length, slice_index_or, Option, Some, None, Result, Ok, Err, pos}
use Rattle.std.specs.List.{flat_map, range_with_len}
use Rattle.std.specs.Ordering.{int_eq}
use Rattle.ent_types.specs.Fitting.{null_entity}
use Rattle.run_model.specs.Buffers.{SharedKey}
use Rattle.command_record.specs.declared.command.Target.TheVariants.{Live}
use Rattle.command_record.specs.declared.command.Command.TheVariants.{Destroy}
use Rattle.command_record.specs.declared.chain.Entry.{Entry}
use Rattle.command_record.specs.declared.turn.Turn.{Turn}
use Rattle.command_record.specs.Chains.{ChainState}
use Rattle.command_record.specs.Turns.{turn_of}
use Rattle.playback.specs.declared.order.ArrangeEnd.{ArrangeEnd}
use Rattle.playback.specs.declared.order.ArrangeEnd.TheVariants.{KeyShared, Memory}
use Rattle.playback.specs.declared.places.Place.{Place}
use Rattle.playback.specs.Order.{shared_at}

-- ---- the places of entries

-- what is at a place where nothing is
abbrev pub no_entry : Entry
no_entry = record { key = pos 0; item = 0; row = 0; number = 0; command = Destroy (Live null_entity) }

abbrev pub no_chain : ChainState
no_chain = record { item = 0; entries = [] }

-- the place of an entry of a chain, of which this is the number
abbrev pub place_at : ℕ → ChainState → ℕ → Place
place_at n c k = record { turn = turn_of (slice_index_or c.entries k no_entry); chain = n; entry = k }

abbrev pub places_in : ℕ → ChainState → List Place
places_in n c = map (place_at n c) (range_with_len 0 (length c.entries))

-- the places of the entries of some chains, chain by chain
abbrev pub all_places : List ChainState → List Place
all_places chains = flat_map (λ n. places_in n (slice_index_or chains n no_chain)) (range_with_len 0 (length chains))

abbrev pub chain_in : List ChainState → Place → ChainState
chain_in chains p = slice_index_or chains p.chain no_chain

abbrev pub entry_in : List ChainState → Place → Entry
entry_in chains p = slice_index_or (chain_in chains p).entries p.entry no_entry

-- there is an entry at the place, which is played at this turn
pub record IsPlaced (chains : List ChainState) (p : Place) : Type 0 where
  pub chain : p.chain < length chains
  pub entry : p.entry < length (chain_in chains p).entries
  pub turn : p.turn ≡ turn_of (entry_in chains p)

-- ---- shared keys

-- one key, and the first has the lower item
abbrev pub shares : Turn → Turn → Bool
shares x y = int_eq x.key y.key && nat_lt x.item y.item

abbrev pub shared_after : Turn → List Place → Option SharedKey
shared_after x [] = None
shared_after x (p ∷ ps) = if shares x p.turn then Some (shared_at x.key x.item p.turn.item) else shared_after p.turn ps

-- the key and the items of the first two neighbours with one key and two items
abbrev pub shared_in : List Place → Option SharedKey
shared_in [] = None
shared_in (p ∷ ps) = shared_after p.turn ps

-- a key that is shared is told
abbrev pub TellsShared : Option SharedKey → Result (Unit {0}) ArrangeEnd → Type 0
TellsShared shared (Ok u) = shared ≡ None
TellsShared shared (Err (KeyShared key first second)) = shared ≡ Some (shared_at key first second)
TellsShared shared (Err Memory) = ⊥
