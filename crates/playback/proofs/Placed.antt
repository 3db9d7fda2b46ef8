-- The entries at the places of some chains are what the chains recorded.
use Rattle.std.proofs.Common.{◌≡◌, ℕ, zero, suc, ◌+◌, ◌<◌, inl, inr, List, [], ◌∷◌, ◌++◌, length, map, get_or, refl, sym, ap, ap₂, ◌∙◌, subst, append_assoc, arith}
use Rattle.std.specs.List.{flat_map, range_with_len}
use Rattle.std.proofs.Math.Path.{fun_ext}
use Rattle.std.specs.Prelude.{IfSome, slice_get}
use Rattle.std.proofs.lemmas.List.{flat_map_more, get_or_default, map-id}
use Rattle.std.proofs.lemmas.List.FromFn.{fill_by_all, map-range_with_len_more}
use Rattle.std.proofs.lemmas.Option.{slice_get-get_or}
use Rattle.std.proofs.lemmas.List.Folds.{flat_map-map}
use Rattle.world_model.specs.Members.{In}
use Rattle.world_laws.proofs.Members.{in_map, map_append}
use Rattle.world_places.proofs.Lists.{map_twice}
use Rattle.run_laws.proofs.Order.{in_flat_map}
use Rattle.command_record.specs.declared.chain.Entry.{Entry}
use Rattle.command_record.specs.declared.turn.Turn.{Turn}
use Rattle.command_record.specs.Chains.{ChainState}
use Rattle.command_record.specs.Turns.{turn_of}
use Rattle.playback.specs.declared.places.Place.{Place}
use Rattle.playback.specs.Order.{all_entries}
use Rattle.playback.specs.Places.{no_entry, no_chain, place_at, places_in, all_places, entry_in, IsPlaced}
use Rattle.playback.proofs.Turns.{in_at}

-- ---- numbers from 0 on

in_range : (a n k : ℕ) → In k (range_with_len a n) → k < a + n
in_range a zero k i = absurd i
in_range a (suc n) k (inl e) = omega arith
in_range a (suc n) k (inr i) = let h = in_range (a + 1) n k i in omega arith

in_below : (n k : ℕ) → In k (range_with_len 0 n) → k < n
in_below n k i = let h = in_range 0 n k i in omega arith

-- a list is what it has at its places
read_all : {X : Type 0} (xs : List X) (d : X) → map (λ k. get_or xs k d) (range_with_len 0 (length xs)) ≡ xs
read_all xs d = sym (fill_by_all (λ k. get_or xs k d) xs (length xs) d refl (λ k less. refl))

map_flat : {X Y Z : Type 0} (f : Y → Z) (g : X → List Y) (xs : List X) → map f (flat_map g xs) ≡ flat_map (λ x. map f (g x)) xs
map_flat f g [] = refl
map_flat f g (x ∷ xs) = map_append f (g x) (flat_map g xs) ∙ ap (λ zs. map f (g x) ++ zs) (map_flat f g xs)

pub entries_placed : (chains : List ChainState) → map (entry_in chains) (all_places chains) ≡ all_entries chains
entries_placed chains =
    map_flat (entry_in chains) (λ n. places_in n (get_or chains n no_chain)) (range_with_len 0 (length chains))
    ∙ (ap (λ (f : ℕ → List Entry). flat_map f (range_with_len 0 (length chains))) (fun_ext each)
    ∙ (sym (flat_map-map (λ (c : ChainState). c.entries) (λ n. get_or chains n no_chain) (range_with_len 0 (length chains)))
    ∙ ap (flat_map (λ (c : ChainState). c.entries)) (read_all chains no_chain)))
  where
    each : (n : ℕ) → map (entry_in chains) (places_in n (get_or chains n no_chain)) ≡ (get_or chains n no_chain).entries
    each n =
        map_twice (entry_in chains) (place_at n (get_or chains n no_chain)) (range_with_len 0 (length (get_or chains n no_chain).entries))
        ∙ read_all (get_or chains n no_chain).entries no_entry

pub places_placed : (chains : List ChainState) (p : Place) → In p (all_places chains) → IsPlaced chains p
places_placed chains p i =
    let (n, j, k) = in_flat_map (λ n. places_in n (get_or chains n no_chain)) p (range_with_len 0 (length chains)) i in
    let (m, l, e) = in_map (place_at n (get_or chains n no_chain)) p (range_with_len 0 (length (get_or chains n no_chain).entries)) k in
    subst (IsPlaced chains) (sym e) (record { chain = in_below (length chains) n j; entry = in_below (length (get_or chains n no_chain).entries) m l; turn = refl })

-- ---- places one after another

turn_read : (es : List Entry) (k : ℕ) (t : Turn) → k < length es → IfSome (slice_get es k) (λ e. t ≡ turn_of e) → t ≡ turn_of (get_or es k no_entry)
turn_read es k t less said = subst (λ o. IfSome o (λ e. t ≡ turn_of e)) (slice_get-get_or es k no_entry less) said

-- the place of one entry more of a chain
pub place_more : (old ps : List Place) (n : ℕ) (c : ChainState) (k : ℕ) (t : Turn) → k < length c.entries → IfSome (slice_get c.entries k) (λ e. t ≡ turn_of e)
    → ps ≡ old ++ map (place_at n c) (range_with_len 0 k)
    → ps ++ (record { turn = t; chain = n; entry = k } ∷ []) ≡ old ++ map (place_at n c) (range_with_len 0 (k + 1))
place_more old ps n c k t less said so_far =
    ap₂ (λ (qs : List Place) (u : Turn). let p : Place = record { turn = u; chain = n; entry = k } in qs ++ p ∷ []) so_far (turn_read c.entries k t less said)
    ∙ (append_assoc old (map (place_at n c) (range_with_len 0 k)) (place_at n c k ∷ [])
    ∙ ap (λ qs. old ++ qs) (sym (map-range_with_len_more (place_at n c) 0 k k (omega arith))))

one_more : (n : ℕ) → range_with_len 0 (n + 1) ≡ range_with_len 0 n ++ n ∷ []
one_more n =
    sym (map-id (range_with_len 0 (n + 1)))
    ∙ (map-range_with_len_more (λ k. k) 0 n n (omega arith) ∙ ap (λ ks. ks ++ n ∷ []) (map-id (range_with_len 0 n)))

-- the places of one chain more
pub chain_more : (chains : List ChainState) (ps : List Place) (n : ℕ) (c : ChainState) → n < length chains → c ≡ get_or chains n c
    → ps ≡ flat_map (λ m. places_in m (get_or chains m no_chain)) (range_with_len 0 n)
    → ps ++ places_in n c ≡ flat_map (λ m. places_in m (get_or chains m no_chain)) (range_with_len 0 (n + 1))
chain_more chains ps n c less is so_far =
    ap₂ (λ (qs : List Place) (d : ChainState). qs ++ places_in n d) so_far (is ∙ get_or_default chains n c no_chain less)
    ∙ (flat_map_more (λ m. places_in m (get_or chains m no_chain)) [] (range_with_len 0 n) n
    ∙ ap (flat_map (λ m. places_in m (get_or chains m no_chain))) (sym (one_more n)))

pub at_place : (P : Place → Type 0) (ps : List Place) → ((p : Place) → In p ps → P p) → (k : ℕ) (d : Place) → k < length ps → P (get_or ps k d)
at_place P ps all k d less = all (get_or ps k d) (in_at ps k d less)
