-- Playback entry by entry.
use Rattle.std.proofs.Common.{◌≡◌, ℕ, ◌+◌, ◌<◌, true, false, Bool, cond, ◌&&◌, nat_eq, if◌then◌else◌, List, [], ◌∷◌, ◌++◌, length, get_or, take, find, option_map, Option, Some, None, Result, Ok, Err, refl, sym, ap, ap₂, ◌∙◌, subst, append-nil}
use Rattle.std.proofs.Math.Path.{fun_ext}
use Rattle.std.proofs.lemmas.List.{take_more}
use Rattle.ent_types.specs.declared.entity.Entity.{Entity}
use Rattle.ent_types.specs.declared.skip.Skip.{Skip}
use Rattle.world_model.specs.World.{World, capacity}
use Rattle.world_model.specs.Operations.{Operation, Reply, Made, Done, Skipped, Answer}
use Rattle.world_laws.proofs.Built.{operate_registry}
use Rattle.run_model.specs.Playback.{done_by}
use Rattle.structural_ops.specs.Worlds.{WorldState}
use Rattle.command_record.specs.declared.chain.Entry.{Entry}
use Rattle.playback.specs.declared.player.Note.{Note}
use Rattle.playback.specs.declared.player.Player.{Player}
use Rattle.playback.specs.Asked.{operation_for}
use Rattle.structural_ops.specs.declared.fault.OpFault.{OpFault}
use Rattle.structural_ops.specs.declared.fault.OpFault.TheVariants as fault
use Rattle.playback.specs.declared.made.Made.{Made as MadeEntities}
use Rattle.playback.specs.Makers.{made_in, maker, maker_of, same_maker}
use Rattle.playback.specs.Named.{IsKept}
use Rattle.playback.specs.Played.{MadeBy, Playing, is_maker, made_at, answer_to, with_made, note_of, after_entry, after_entries, not_begun, played, Answers, Does}
use Rattle.playback.specs.Players.{IsAt}
use Rattle.playback.proofs.Named.{operation_free}

-- ---- the registry stays

done_registry : (capacity : List ℕ → ℕ) (w : World) (o : Option Operation) → (done_by capacity w o).world.registry ≡ w.registry
done_registry capacity w None = refl
done_registry capacity w (Some operation) = operate_registry capacity w operation

entries_registry : (capacity : List ℕ → ℕ) (p : Playing) (es : List Entry) → (after_entries capacity p es).world.registry ≡ p.world.registry
entries_registry capacity p [] = refl
entries_registry capacity p (x ∷ xs) =
    entries_registry capacity (after_entry capacity p x) xs ∙ done_registry capacity p.world (operation_for (made_at p.made x.item) x.command)

pub played_registry : (w : World) (es : List Entry) → (played w es).world.registry ≡ w.registry
unfolding played
played_registry w es = entries_registry (capacity w.registry) (not_begun w) es

-- ---- one entry more

entries_then : (capacity : List ℕ → ℕ) (p : Playing) (xs ys : List Entry) → after_entries capacity p (xs ++ ys) ≡ after_entries capacity (after_entries capacity p xs) ys
entries_then capacity p [] ys = refl
entries_then capacity p (x ∷ xs) ys = entries_then capacity (after_entry capacity p x) xs ys

pub played_more : (w : World) (es : List Entry) (i : ℕ) (x : Entry) → i < length es → x ≡ get_or es i x
    → played w (take (i + 1) es) ≡ after_entry (capacity (played w (take i es)).world.registry) (played w (take i es)) x
unfolding played
played_more w es i x less is =
    ap (after_entries (capacity w.registry) (not_begun w)) (take_more es i x less ∙ ap (λ y. take i es ++ y ∷ []) (sym is))
    ∙ (entries_then (capacity w.registry) (not_begun w) (take i es) (x ∷ [])
    ∙ ap (λ registry. after_entry (capacity registry) (after_entries (capacity w.registry) (not_begun w) (take i es)) x)
    (sym (entries_registry (capacity w.registry) (not_begun w) (take i es))))

-- ---- what a player keeps

-- what an entry asks for by what the player keeps is what it asks for in the playback
pub asked_is : (p : Playing) (w : WorldState) (y : Player) (x : Entry) → IsAt p w y → IsKept y.keeps x.command
    → operation_for (made_in y.made x.item) x.command ≡ operation_for (made_at p.made x.item) x.command
asked_is p w y x at kept = by y.keeps refl
  where
    by : (b : Bool) → y.keeps ≡ b → operation_for (made_in y.made x.item) x.command ≡ operation_for (made_at p.made x.item) x.command
    by true keeps = ap (λ f. operation_for f x.command) (fun_ext (λ row. fun_ext (λ number. at.made keeps x.item row number)))
    by false drops = operation_free (made_in y.made x.item) (made_at p.made x.item) x.command (kept drops)

module _ (p : Playing) (old new : WorldState) (y z : Player) (x : Entry) (at : IsAt p old y) (kept : IsKept y.keeps x.command) where
  answer_is : done_by (capacity old.world.registry) old.world (operation_for (made_in y.made x.item) x.command) ≡ answer_to (capacity p.world.registry) p x
  answer_is = ap₂ (λ (w : World) o. done_by (capacity w.registry) w o) at.world (asked_is p old y x at kept)

  made_head : (e : Entity) (ms : List MadeBy) (item row number : ℕ)
      → (if same_maker (maker_of x) (maker item row number) then Some e else made_at ms item row number) ≡ made_at (record { entry = x; entity = e } ∷ ms) item row number
  made_head e ms item row number = by (nat_eq x.item item) (nat_eq x.row row) (nat_eq x.number number)
    where
      by : (a b c : Bool) → (if a && (b && c) then Some e else made_at ms item row number)
          ≡ option_map (λ (m : MadeBy). m.entity) (cond (a && b && c) (Some (record { entry = x; entity = e })) (find (λ m. is_maker m.entry item row number) ms))
      by true true true = refl
      by true true false = refl
      by true false c = refl
      by false b c = refl

  -- the world and the player after an entry that was answered so
  at_reply : (r : Reply) → (answer_to (capacity p.world.registry) p x).reply ≡ r → new.world ≡ (answer_to (capacity p.world.registry) p x).world
      → z.notes ≡ y.notes ++ note_of x r
      → (z.keeps ≡ true → (item row number : ℕ) → made_in z.made item row number ≡ made_at (with_made x r p.made) item row number)
      → IsAt (after_entry (capacity p.world.registry) p x) new z
  at_reply r reply world notes made = record {
    world = world;
    notes = notes ∙ ap₂ (λ (ns : List Note) s. ns ++ note_of x s) at.notes (sym reply);
    made = λ keeps item row number. made keeps item row number ∙ ap (λ s. made_at (with_made x s p.made) item row number) (sym reply);
  }

  -- ---- by what the call answered

  module _ (r : Result (Option Entity) OpFault) (does : Does old new (operation_for (made_in y.made x.item) x.command) r) where
    answers : Answers old new (answer_to (capacity p.world.registry) p x) r
    answers = subst (λ (a : Answer). Answers old new a r) answer_is does

  pub at_done : Does old new (operation_for (made_in y.made x.item) x.command) (Ok None) → z.keeps ≡ y.keeps → z.made ≡ y.made → z.notes ≡ y.notes
      → IsAt (after_entry (capacity p.world.registry) p x) new z
  at_done does keeps made notes =
      let a = answers (Ok None) does in
      at_reply Done a.0 a.1.world_is (notes ∙ sym (append-nil y.notes))
      (λ on item row number. ap (λ (m : MadeEntities). made_in m item row number) made ∙ at.made (sym keeps ∙ on) item row number)

  pub at_made : (e : Entity) → Does old new (operation_for (made_in y.made x.item) x.command) (Ok (Some e)) → z.keeps ≡ y.keeps → z.notes ≡ y.notes
      → (y.keeps ≡ true → (item row number : ℕ) → made_in z.made item row number ≡ (if same_maker (maker_of x) (maker item row number) then Some e else made_in y.made item row number))
      → IsAt (after_entry (capacity p.world.registry) p x) new z
  at_made e does keeps notes made =
      let a = answers (Ok (Some e)) does in
      at_reply (Made e) a.0 a.1.world_is (notes ∙ sym (append-nil y.notes))
      (λ on item row number. made (sym keeps ∙ on) item row number
      ∙ (ap (λ (o : Option Entity). if same_maker (maker_of x) (maker item row number) then Some e else o) (at.made (sym keeps ∙ on) item row number)
      ∙ made_head e p.made item row number))

  pub at_skip : (cause : Skip) → Does old new (operation_for (made_in y.made x.item) x.command) (Err (fault.Skip cause)) → z.keeps ≡ y.keeps → z.made ≡ y.made
      → z.notes ≡ y.notes ++ record { item = x.item; row = x.row; number = x.number; skip = cause } ∷ []
      → IsAt (after_entry (capacity p.world.registry) p x) new z
  at_skip cause does keeps made notes =
      let a = answers (Err (fault.Skip cause)) does in
      at_reply (Skipped cause) a.0 a.1.world_is notes
      (λ on item row number. ap (λ (m : MadeEntities). made_in m item row number) made ∙ at.made (sym keeps ∙ on) item row number)

  -- the entry was done, whatever came after it
  pub world_made : (e : Entity) → Does old new (operation_for (made_in y.made x.item) x.command) (Ok (Some e)) → new.world ≡ (after_entry (capacity p.world.registry) p x).world
  world_made e does = (answers (Ok (Some e)) does).1.world_is

  pub world_skipped : (cause : Skip) → Does old new (operation_for (made_in y.made x.item) x.command) (Err (fault.Skip cause))
      → new.world ≡ (after_entry (capacity p.world.registry) p x).world
  world_skipped cause does = (answers (Err (fault.Skip cause)) does).1.world_is
