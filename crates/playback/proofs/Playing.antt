-- Entries that name placeholders of their own rows alone are played as the definitions say.
use Rattle.std.proofs.Common.{◌≡◌, ℕ, Bool, true, false, cond, ◌&&◌, nat_eq, List, [], ◌∷◌, ◌++◌, inl, inr, map, find, Option, Some, option_map, refl, sym, ap, ap₂, ◌∙◌}
use Rattle.std.proofs.Math.Path.{fun_ext}
use Rattle.ent_types.specs.declared.entity.Entity.{Entity}
use Rattle.ent_types.specs.declared.point.Point.{Point}
use Rattle.world_model.specs.Members.{In}
use Rattle.world_model.specs.World.{World, capacity}
use Rattle.world_model.specs.Operations.{Reply, Made, Done, Skipped, Answer}
use Rattle.world_laws.proofs.Members.{map_append}
use Rattle.world_loans.proofs.Ordered.{member_permuted}
use Rattle.run_model.specs.Buffers.{arranged}
use Rattle.run_model.specs.Playback.{MadeEntity, PlaybackState, made_for, operation_of, done_by, playback}
use Rattle.run_model.specs.Playback as model
use Rattle.command_record.specs.declared.chain.Entry.{Entry}
use Rattle.command_record.specs.Entries.{change_of, entry_at, entries_at}
use Rattle.playback.specs.declared.player.Note.{Note}
use Rattle.playback.specs.Laws.{NameOwnRows, note_seen}
use Rattle.playback.specs.Order.{AreApart, AreArranged}
use Rattle.playback.specs.Played.{MadeBy, Playing, is_maker, made_at, answer_to, with_made, note_of, after_entry, after_entries, not_begun, played}
use Rattle.playback.proofs.OwnRows.{operation_is}
use Rattle.playback.proofs.Arranged.{arranged_at}

module _ (point : Point) where
  -- an entity that was made, as the definitions see it
  abbrev made_seen : MadeBy → MadeEntity
  made_seen m = record { entry = entry_at point m.entry; entity = m.entity }

  -- the definitions are at the same state
  record IsSame (p : Playing) (q : PlaybackState) : Type 0 where
    world : q.world ≡ p.world
    made : q.made_entities ≡ map made_seen p.made
    notes : map note_seen q.notes ≡ p.notes

  found_same : (x : Entry) (n : ℕ) (ms : List MadeBy) → made_for (map made_seen ms) (entry_at point x) n ≡ made_at ms x.item x.row n
  found_same x n [] = refl
  found_same x n (m ∷ ms) = by (is_maker m.entry x.item x.row n) (found_same x n ms)
    where
      by : (b : Bool) → made_for (map made_seen ms) (entry_at point x) n ≡ made_at ms x.item x.row n → option_map (λ (k : MadeEntity). k.entity) (cond b (Some (made_seen m)) (find (λ (k : MadeEntity). model.is_same_spot k.entry (entry_at point x) && nat_eq k.entry.command.number n) (map made_seen ms)))
          ≡ option_map (λ (k : MadeBy). k.entity) (cond b (Some m) (find (λ (k : MadeBy). is_maker k.entry x.item x.row n) ms))
      by true rest = refl
      by false rest = rest

  made_after : (x : Entry) (r : Reply) (ms : List MadeBy) → model.with_made (entry_at point x) r (map made_seen ms) ≡ map made_seen (with_made x r ms)
  made_after x (Made e) ms = refl
  made_after x Done ms = refl
  made_after x (Skipped cause) ms = refl

  note_same : (x : Entry) (r : Reply) → map note_seen (model.note_of (entry_at point x) r) ≡ note_of x r
  note_same x (Made e) = refl
  note_same x Done = refl
  note_same x (Skipped cause) = refl

  module _ (capacity : List ℕ → ℕ) where
    answer_same : (p : Playing) (q : PlaybackState) (x : Entry) → NameOwnRows (x ∷ []) → IsSame p q → model.answer_of capacity q (entry_at point x) ≡ answer_to capacity p x
    answer_same p q x own s =
        ap₂ (done_by capacity) s.world
        (ap (λ (f : ℕ → Option Entity). operation_of f (change_of x.command))
        (ap (λ ms. made_for ms (entry_at point x)) s.made ∙ fun_ext (λ n. found_same x n p.made))
        ∙ sym (operation_is (made_at p.made x.item) x.row x.command (own x (inl refl))))

    entry_same : (p : Playing) (q : PlaybackState) (x : Entry) → NameOwnRows (x ∷ []) → IsSame p q → IsSame (after_entry capacity p x) (model.after_entry capacity q (entry_at point x))
    entry_same p q x own s =
        let answer = answer_same p q x own s in
        record {
          world = ap (λ (a : Answer). a.world) answer;
          made = ap₂ (λ (a : Answer) ms. model.with_made (entry_at point x) a.reply ms) answer s.made ∙ made_after x (answer_to capacity p x).reply p.made;
          notes = map_append note_seen q.notes (model.note_of (entry_at point x) (model.answer_of capacity q (entry_at point x)).reply)
              ∙ ap₂ (λ (ns ms : List Note). ns ++ ms) s.notes
              (ap (λ (a : Answer). map note_seen (model.note_of (entry_at point x) a.reply)) answer ∙ note_same x (answer_to capacity p x).reply);
        }

    entries_same : (p : Playing) (q : PlaybackState) (es : List Entry) → NameOwnRows es → IsSame p q
        → IsSame (after_entries capacity p es) (model.after_entries capacity q (entries_at point es))
    entries_same p q [] own s = s
    entries_same p q (x ∷ xs) own s =
        entries_same (after_entry capacity p x) (model.after_entry capacity q (entry_at point x)) xs (λ y i. own y (inr i))
        (entry_same p q x (λ y i. own y (by y i)) s)
      where
        by : (y : Entry) → In y (x ∷ []) → In y (x ∷ xs)
        by y (inl e) = inl e
        by y (inr i) = absurd i

pub played_as_defined : (point : Point) (w : World) (es fs : List Entry) → NameOwnRows es → AreApart es → AreArranged es fs
    → ((playback (capacity w.registry) w (entries_at point es)).world ≡ (played w fs).world)
    × (map note_seen (playback (capacity w.registry) w (entries_at point es)).notes ≡ (played w fs).notes)
unfolding playback played
played_as_defined point w es fs own two in_order = (
  ap (λ xs. (model.after_entries (capacity w.registry) begun xs).world) (sym order) ∙ same.world,
  ap (λ xs. map note_seen (model.after_entries (capacity w.registry) begun xs).notes) (sym order) ∙ same.notes,
)
  where
    begun : PlaybackState
    begun = record { world = w; made_entities = []; notes = [] }

    order : entries_at point fs ≡ arranged (entries_at point es)
    order = arranged_at point es fs two in_order

    same : IsSame point (after_entries (capacity w.registry) (not_begun w) fs) (model.after_entries (capacity w.registry) begun (entries_at point fs))
    same = entries_same point (capacity w.registry) (not_begun w) begun fs (λ x i. own x (member_permuted es fs in_order.same x i))
        (record { world = refl; made = refl; notes = refl })
