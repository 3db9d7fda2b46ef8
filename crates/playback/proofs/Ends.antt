-- What is played when a loop over entries begins, goes on and ends.
use Rattle.std.proofs.Common.{◌≡◌, ℕ, ◌+◌, ◌<◌, ◌⊎◌, ⊎_elim, List, [], ◌++◌, length, get_or, take, Result, Ok, Err, refl, sym, ap, ◌∙◌, subst, append-nil, append_assoc}
use Rattle.std.specs.Prelude.{None, OnErr}
use Rattle.world_model.specs.Members.{In}
use Rattle.world_model.specs.World.{World, capacity}
use Rattle.structural_ops.specs.Worlds.{WorldState, Grows}
use Rattle.command_record.specs.declared.chain.Entry.{Entry}
use Rattle.playback.specs.declared.player.Player.{Player}
use Rattle.playback.specs.Asked.{AllSuit, CommandSuits}
use Rattle.playback.specs.Makers.{made_in}
use Rattle.playback.specs.Played.{Playing, after_entry, played, Leaves}
use Rattle.playback.specs.Players.{IsAt}
use Rattle.playback.proofs.Steps.{played_registry, played_more}
use Rattle.playback.proofs.Turns.{in_at}

pub whatever_err : {T E Q : Type 0} (r : Result T E) → Q → OnErr r Q
whatever_err (Ok v) q = tt
whatever_err (Err e) q = q

-- ---- archetypes

pub grows_self : (archetypes : List (List ℕ)) → Grows archetypes archetypes
grows_self archetypes = record { more = []; are = sym (append-nil archetypes) }

pub grows_then : (a b c : List (List ℕ)) → Grows a b → Grows b c → Grows a c
grows_then a b c g h = record { more = g.more ++ h.more; are = h.are ∙ (ap (λ xs. xs ++ h.more) g.are ∙ append_assoc a g.more h.more) }

-- ---- the loop

pub begins : (w : WorldState) (y : Player) (es : List Entry) → y.notes ≡ [] → ((item row number : ℕ) → made_in y.made item row number ≡ None)
    → IsAt (played w.world (take 0 es)) w y
unfolding played
begins w y es notes made = record { world = refl; notes = notes; made = λ keeps. made }

module _ (w : World) (es : List Entry) (i : ℕ) (x : Entry) (less : i < length es) (is : x ≡ get_or es i x) (now : WorldState) (y : Player)
    (at : IsAt (played w (take i es)) now y) where
  registry_is : now.world.registry ≡ w.registry
  registry_is = ap (λ (v : World). v.registry) at.world ∙ played_registry w (take i es)

  pub suits_now : AllSuit w.registry es → CommandSuits now.world.registry x.command
  suits_now suits =
      subst (λ registry. CommandSuits registry x.command) (sym registry_is)
      (suits x (subst (λ (z : Entry). In z es) (sym is) (in_at es i x less)))

  pub goes_on : (new : WorldState) (z : Player)
      → ((p : Playing) → IsAt p now y → IsAt (after_entry (capacity p.world.registry) p x) new z) → IsAt (played w (take (i + 1) es)) new z
  goes_on new z step = subst (λ (p : Playing). IsAt p new z) (sym (played_more w es i x less is)) (step (played w (take i es)) at)

  -- the world is the one after the first entries, with this one or without it
  pub stops : (old new : WorldState) → Grows old.archetypes now.archetypes → Grows now.archetypes new.archetypes
      → ((p : Playing) → IsAt p now y → (new.world ≡ p.world) ⊎ (new.world ≡ (after_entry (capacity p.world.registry) p x).world))
      → (n : ℕ) × Leaves old new (played w (take n es)).world
  stops old new before after step =
      ⊎_elim (λ same. (i, leaves same))
      (λ same. (i + 1, leaves (same ∙ ap (λ (p : Playing). p.world) (sym (played_more w es i x less is)))))
      (step (played w (take i es)) at)
    where
      leaves : {v : World} → new.world ≡ v → Leaves old new v
      leaves same = record { world_is = same; archetypes = grows_then old.archetypes now.archetypes new.archetypes before after }
