-- What is sorted by the turns of its places is arranged, and its neighbours tell a shared key.
use Rattle.std.proofs.Common.{◌≡◌, ◌+◌, ◌<◌, inl, inr, if◌then◌else◌, List, [], ◌∷◌, length, map, Some, None, Ok, Err, refl, sym, ap, ap₂, ◌∙◌, subst, arith}
use Rattle.std.specs.List.Sorted.{IsPermutation, IsSortedBy}
use Rattle.std.specs.Ordering.{is_lt}
use Rattle.std.proofs.lemmas.List.{get_or-map, length-map}
use Rattle.std.proofs.lemmas.List.Sorted.{IsPermutation-map}
use Rattle.ent_types.specs.declared.point.Point.{Point}
use Rattle.world_model.specs.Members.{In}
use Rattle.world_laws.proofs.Members.{in_map}
use Rattle.world_loans.proofs.Ordered.{members_permuted}
use Rattle.run_model.specs.Run as run
use Rattle.run_model.specs.Buffers.{before, arranged, shared_key, share_key, shared_by, neighbours_from, shared_neighbours}
use Rattle.run_laws.specs.Entries.{AreDifferent}
use Rattle.run_laws.proofs.Arrange.{arranged_is}
use Rattle.run_laws.proofs.SharedKeys.{neighbours_are_shared}
use Rattle.command_record.specs.declared.chain.Entry.{Entry}
use Rattle.command_record.specs.declared.turn.Turn.{Turn}
use Rattle.command_record.specs.Chains.{ChainState}
use Rattle.command_record.specs.Turns.{turn_of}
use Rattle.command_record.specs.Entries.{entry_at, entries_at}
use Rattle.playback.specs.declared.places.Place.{Place}
use Rattle.playback.specs.declared.order.ArrangeEnd.{ArrangeEnd}
use Rattle.playback.specs.declared.order.ArrangeEnd.TheVariants.{KeyShared, Memory}
use Rattle.playback.specs.Order.{plays_before, AreApart, AreArranged, Arranges, all_entries, shared_at}
use Rattle.playback.specs.Places.{no_entry, entry_in, all_places, IsPlaced, shares, shared_after, shared_in, TellsShared}
use Rattle.playback.proofs.Turns.{turn_cmp, placed_sorted}
use Rattle.playback.proofs.Placed.{entries_placed, places_placed}

-- ---- as the definitions have it

differ_at : (point : Point) (es : List Entry) → AreApart es → AreDifferent (entries_at point es)
differ_at point es two x y i j p q n =
    let (u, k, e) = in_map (entry_at point) x es i in
    let (v, l, f) = in_map (entry_at point) y es j in
    let item : u.item ≡ v.item = ap (λ (z : run.Entry). z.item) (sym e) ∙ (p ∙ ap (λ (z : run.Entry). z.item) f) in
    let row : u.row ≡ v.row = ap (λ (z : run.Entry). z.place) (sym e) ∙ (q ∙ ap (λ (z : run.Entry). z.place) f) in
    let number : u.number ≡ v.number = ap (λ (z : run.Entry). z.command.number) (sym e) ∙ (n ∙ ap (λ (z : run.Entry). z.command.number) f) in
    e ∙ (ap (entry_at point) (two u v k l item row number) ∙ sym f)

sorted_at : (point : Point) (fs : List Entry) → IsSortedBy plays_before fs → IsSortedBy before (entries_at point fs)
sorted_at point fs sorted = by
  where
    by : IsSortedBy before (map (entry_at point) fs)
    by k d low less =
        let size : length (map (entry_at point) fs) ≡ length fs = length-map fs (entry_at point) in
        let next : k + 1 < length fs = omega arith in
        let here : k < length fs = omega arith in
        ap₂ before (get_or-map (entry_at point) fs (k + 1) no_entry d next) (get_or-map (entry_at point) fs k no_entry d here)
        ∙ sorted k no_entry low next

pub arranged_at : (point : Point) (es fs : List Entry) → AreApart es → AreArranged es fs → entries_at point fs ≡ arranged (entries_at point es)
arranged_at point es fs two in_order =
    sym (arranged_is (entries_at point es) (entries_at point fs) (differ_at point es two) (IsPermutation-map (entry_at point) es fs in_order.same) (sorted_at point fs in_order.sorted))

-- ---- shared keys

module _ (point : Point) (chains : List ChainState) where
  neighbours_after : (x : Turn) (e : Entry) → x ≡ turn_of e → (ps : List Place) → ((p : Place) → In p ps → IsPlaced chains p)
      → neighbours_from (entry_at point e) (entries_at point (map (entry_in chains) ps)) ≡ shared_after x ps
  neighbours_after x e same [] there = refl
  neighbours_after x e same (p ∷ ps) there =
      let turn : p.turn ≡ turn_of (entry_in chains p) = (there p (inl refl)).turn in
      let rest = neighbours_after p.turn (entry_in chains p) turn ps (λ q i. there q (inr i)) in
      ap (λ r. if share_key (entry_at point e) (entry_at point (entry_in chains p)) then Some (shared_by (entry_at point e) (entry_at point (entry_in chains p))) else r) rest
      ∙ ap₂ (λ (a b : Turn). if shares a b then Some (shared_at a.key a.item b.item) else shared_after p.turn ps) (sym same) (sym turn)

  neighbours_in : (ps : List Place) → ((p : Place) → In p ps → IsPlaced chains p) → shared_neighbours (entries_at point (map (entry_in chains) ps)) ≡ shared_in ps
  neighbours_in [] there = refl
  neighbours_in (p ∷ ps) there = neighbours_after p.turn (entry_in chains p) (there p (inl refl)).turn ps (λ q i. there q (inr i))

-- ---- places in order

module _ (chains : List ChainState) (ps qs : List Place) (are : ps ≡ all_places chains) (moved : IsPermutation ps qs) where
  pub all_placed : (p : Place) → In p qs → IsPlaced chains p
  all_placed = members_permuted (IsPlaced chains) ps qs moved (λ p i. places_placed chains p (subst (In p) are i))

  module _ (sorted : IsSortedBy (λ (p q : Place). is_lt (turn_cmp p.turn q.turn)) qs) (two : AreApart (all_entries chains)) where
    placed_arranged : AreArranged (all_entries chains) (map (entry_in chains) qs)
    placed_arranged = record {
      same = subst (λ es. IsPermutation es (map (entry_in chains) qs)) (ap (map (entry_in chains)) are ∙ entries_placed chains) (IsPermutation-map (entry_in chains) ps qs moved);
      sorted = placed_sorted chains qs all_placed sorted;
    }

    shared_told : (point : Point) → shared_key (entries_at point (all_entries chains)) ≡ shared_in qs
    shared_told point =
        sym (neighbours_are_shared (entries_at point (all_entries chains)))
        ∙ (ap shared_neighbours (sym (arranged_at point (all_entries chains) (map (entry_in chains) qs) two placed_arranged))
        ∙ neighbours_in point chains qs all_placed)

    pub tells_shared : (end : ArrangeEnd) → TellsShared (shared_in qs) (Err end) → Arranges (all_entries chains) (Err end)
    tells_shared (KeyShared key first second) told = λ point. shared_told point ∙ told
    tells_shared Memory told = absurd told

    module _ (rs : List Place) (shown : rs ≡ qs) (fs : List Entry) (copied : fs ≡ map (entry_in chains) rs) where
      in_order : AreArranged (all_entries chains) fs
      in_order = subst (AreArranged (all_entries chains)) (ap (map (entry_in chains)) (sym shown) ∙ sym copied) placed_arranged

      pub is_arranged : shared_in qs ≡ None → Arranges (all_entries chains) (Ok fs)
      is_arranged none = (in_order, λ point. shared_told point ∙ none)

      pub is_defined : (point : Point) → entries_at point fs ≡ arranged (entries_at point (all_entries chains))
      is_defined point = arranged_at point (all_entries chains) fs two in_order
