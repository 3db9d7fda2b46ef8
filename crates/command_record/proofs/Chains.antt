-- The entries of a chain, after one was added and after some were cut off.
use Rattle.std.proofs.Common.{◌≡◌, ℕ, ◌<◌, ◌≤◌, inl, inr, List, [], ◌∷◌, ◌++◌, All, length, map, take, get_or, slice_get, Some, refl, sym, ap, ap₂, ◌∙◌, subst, subst₂, arith}
use Rattle.std.proofs.lemmas.List.{length-take, length-take-le, length_push, length-map, get_or-take, map-append, take-map, take_all}
use Rattle.std.proofs.lemmas.Option.{get_or_from_slice_get, slice_get_within}
use Rattle.std.proofs.lemmas.List.Elements.{All-nil, All-head, All-tail, All-push, All-take, All-weaker, All-from_get_or}
use Rattle.std.proofs.lemmas.List.Quantifiers.{all_pairs_push}
use Rattle.world_model.specs.Members.{In}
use Rattle.command_record.specs.declared.command.CmdValue.{CmdValue}
use Rattle.command_record.specs.declared.command.Command.{Command}
use Rattle.command_record.specs.declared.kept.PartHead.{PartHead}
use Rattle.command_record.specs.declared.chain.Entry.{Entry}
use Rattle.command_record.specs.declared.chain.Head.{Head}
use Rattle.command_record.specs.declared.chain.TheConstants.{MOST_ENTRIES}
use Rattle.command_record.specs.Kept.{act_of, part_heads_of, values_of, count_in, within, command_from}
use Rattle.command_record.specs.Heads.{AreKept, Fits, IsBefore, IsThere, entries_from, entry_from}
use Rattle.command_record.proofs.GivenBack.{command_back, count_kept}
use Rattle.command_record.proofs.Spans.{Begins, begins_append, begins_take, fits_more, within_added, within_longer}

map_same : {X Y : Type 0} (f g : X → Y) (xs : List X) → All (λ x. f x ≡ g x) xs → map f xs ≡ map g xs
map_same f g [] same = refl
map_same f g (x ∷ xs) same = ap₂ (λ y ys. y ∷ ys) (All-head (λ x. f x ≡ g x) x xs same) (map_same f g xs (All-tail (λ x. f x ≡ g x) x xs same))

pub nothing_kept : AreKept [] [] []
nothing_kept = record { there = All-nil _; rising = λ i j d before below. absurd (omega (arith, below)); few = omega arith }

pub count_entries : (item : ℕ) (parts : List PartHead) (values : List CmdValue) (heads : List Head) → length (entries_from item parts values heads) ≡ length heads
count_entries item parts values heads = length-map heads (entry_from item parts values)

-- each entry has the item's number
pub own_entry : (item : ℕ) (parts : List PartHead) (values : List CmdValue) (heads : List Head) (e : Entry) → In e (entries_from item parts values heads) → e.item ≡ item
own_entry item parts values [] e i = absurd i
own_entry item parts values (h ∷ hs) e (inl is) = ap (λ (x : Entry). x.item) is
own_entry item parts values (h ∷ hs) e (inr i) = own_entry item parts values hs e i

-- what a head names lies within lists of these lengths
record Lies (parts values : ℕ) (h : Head) : Type 0 where
  parts_fit : Fits h.parts parts
  values_fit : Fits h.values values

module _ (parts' parts : List PartHead) (values' values : List CmdValue) (first : Begins parts' parts) (second : Begins values' values) where
  -- a head's entry is the same in the shorter lists and in the longer ones
  entry_same : (item : ℕ) (h : Head) → Lies (length parts) (length values) h → entry_from item parts' values' h ≡ entry_from item parts values h
  entry_same item h lies =
      ap₂ (λ ps vs. let e : Entry = record { key = h.key; item = item; row = h.row; number = h.number; command = command_from h.act ps vs } in e)
      (within_longer parts' parts h.parts first lies.parts_fit)
      (within_longer values' values h.values second lies.values_fit)

  entries_same : (item : ℕ) (heads : List Head) → All (Lies (length parts) (length values)) heads → entries_from item parts' values' heads ≡ entries_from item parts values heads
  entries_same item heads lie =
      map_same (entry_from item parts' values') (entry_from item parts values) heads
      (All-weaker (Lies (length parts) (length values)) (λ h. entry_from item parts' values' h ≡ entry_from item parts values h) (entry_same item) heads lie)

  there_longer : (h : Head) → IsThere parts values h → IsThere parts' values' h
  there_longer h is = record {
    parts = fits_more h.parts (length parts) (length parts') first.most is.parts;
    values = fits_more h.values (length values) (length values') second.most is.values;
    counts = subst₂ (λ (ps : List PartHead) (vs : List CmdValue). count_in ps ≤ length vs)
        (sym (within_longer parts' parts h.parts first is.parts)) (sym (within_longer values' values h.values second is.values)) is.counts;
  }

  there_shorter : (h : Head) → Lies (length parts) (length values) h → IsThere parts' values' h → IsThere parts values h
  there_shorter h lies is = record {
    parts = lies.parts_fit;
    values = lies.values_fit;
    counts = subst₂ (λ (ps : List PartHead) (vs : List CmdValue). count_in ps ≤ length vs)
        (within_longer parts' parts h.parts first lies.parts_fit) (within_longer values' values h.values second lies.values_fit) is.counts;
  }

-- a command was kept behind some lists, which made the longer ones, and a head says where
pub record IsAdded (parts' parts : List PartHead) (values' values : List CmdValue) (c : Command) (h : Head) : Type 0 where
  pub parts_are : parts' ≡ parts ++ part_heads_of c
  pub values_are : values' ≡ values ++ values_of c
  pub act : h.act ≡ act_of c
  pub parts_start : h.parts.start ≡ length parts
  pub parts_end : h.parts.end ≡ length parts'
  pub values_start : h.values.start ≡ length values
  pub values_end : h.values.end ≡ length values'

module _ (parts : List PartHead) (values : List CmdValue) (heads : List Head) (kept : AreKept parts values heads) where
  all_lie : All (Lies (length parts) (length values)) heads
  all_lie = All-weaker (IsThere parts values) (Lies (length parts) (length values)) (λ h is. record { parts_fit = is.parts; values_fit = is.values }) heads kept.there

  module _ (parts' : List PartHead) (values' : List CmdValue) (c : Command) (h : Head) (added : IsAdded parts' parts values' values c h) where
    first : Begins parts' parts
    first = subst (λ ps. Begins ps parts) (sym added.parts_are) (begins_append parts (part_heads_of c))

    second : Begins values' values
    second = subst (λ vs. Begins vs values) (sym added.values_are) (begins_append values (values_of c))

    own_parts : within parts' h.parts ≡ part_heads_of c
    own_parts = within_added parts' parts (part_heads_of c) h.parts added.parts_are added.parts_start added.parts_end

    own_values : within values' h.values ≡ values_of c
    own_values = within_added values' values (values_of c) h.values added.values_are added.values_start added.values_end

    there_added : IsThere parts' values' h
    there_added = record {
      parts = record { ordered = omega (arith, added.parts_start, added.parts_end, first.most); ends = omega (arith, added.parts_end) };
      values = record { ordered = omega (arith, added.values_start, added.values_end, second.most); ends = omega (arith, added.values_end) };
      counts = subst₂ (λ (ps : List PartHead) (vs : List CmdValue). count_in ps ≤ length vs) (sym own_parts) (sym own_values) (count_kept c);
    }

    pub kept_added : length heads < MOST_ENTRIES → AreKept parts' values' (heads ++ h ∷ [])
    kept_added few = record {
      there = All-push (IsThere parts' values') heads h
          (All-weaker (IsThere parts values) (IsThere parts' values') (there_longer parts' parts values' values first second) heads kept.there)
          there_added;
      rising = all_pairs_push IsBefore heads h kept.rising (λ k d below. record {
        parts = omega (arith, (kept.there k d below).parts.ends, added.parts_start);
        values = omega (arith, (kept.there k d below).values.ends, added.values_start);
      });
      few = omega (arith, few, length_push heads h);
    }

    pub entries_added : (item : ℕ) → entries_from item parts' values' (heads ++ h ∷ [])
        ≡ entries_from item parts values heads ++ record { key = h.key; item = item; row = h.row; number = h.number; command = c } ∷ []
    entries_added item =
        map-append (entry_from item parts' values') heads (h ∷ [])
        ∙ ap₂ (λ front command. front ++ (let e : Entry = record { key = h.key; item = item; row = h.row; number = h.number; command = command } in e) ∷ [])
        (entries_same parts' parts values' values first second item heads all_lie)
        (ap (λ act. command_from act (within parts' h.parts) (within values' h.values)) added.act ∙ ap₂ (command_from (act_of c)) own_parts own_values ∙ command_back c)

  -- the head at place n is the first that is cut off, with its parts and values
  module _ (n : ℕ) (next : Head) (at : slice_get heads n ≡ Some next) where
    abbrev left_parts : List PartHead
    left_parts = take next.parts.start parts

    abbrev left_values : List CmdValue
    left_values = take next.values.start values

    below : n < length heads
    below = slice_get_within heads n next at

    next_there : IsThere parts values next
    next_there = subst (IsThere parts values) (get_or_from_slice_get heads n next next at) (kept.there n next below)

    parts_left : length left_parts ≡ next.parts.start
    parts_left =
        let start : next.parts.start ≤ length parts = omega (arith, next_there.parts.ordered, next_there.parts.ends) in
        length-take-le next.parts.start parts start

    values_left : length left_values ≡ next.values.start
    values_left =
        let start : next.values.start ≤ length values = omega (arith, next_there.values.ordered, next_there.values.ends) in
        length-take-le next.values.start values start

    left_lies : (k : ℕ) → k < n → Lies (length left_parts) (length left_values) (get_or heads k next)
    left_lies k before =
        let there = kept.there k next (omega (arith, before, below)) in
        let apart : IsBefore (get_or heads k next) next =
        subst (IsBefore (get_or heads k next)) (get_or_from_slice_get heads n next next at) (kept.rising k n next before below) in
        record {
          parts_fit = record { ordered = there.parts.ordered; ends = omega (arith, apart.parts, parts_left) };
          values_fit = record { ordered = there.values.ordered; ends = omega (arith, apart.values, values_left) };
        }

    left_lie : All (Lies (length left_parts) (length left_values)) (take n heads)
    left_lie = All-from_get_or (Lies (length left_parts) (length left_values)) (take n heads) next (λ k b.
        let before : k < n = omega (arith, b, length-take n heads) in
        subst (Lies (length left_parts) (length left_values)) (sym (get_or-take n heads k next before)) (left_lies k before))

    pub kept_cut : AreKept left_parts left_values (take n heads)
    kept_cut = record {
      there = λ k e b. there_shorter parts left_parts values left_values
          (begins_take next.parts.start parts) (begins_take next.values.start values)
          (get_or (take n heads) k e) (left_lie k e b) (All-take (IsThere parts values) n heads kept.there k e b);
      rising = λ i j e before b.
          let second : j < n = omega (arith, b, length-take n heads) in
          let first : i < n = omega (arith, before, second) in
          subst₂ IsBefore (sym (get_or-take n heads i e first)) (sym (get_or-take n heads j e second))
          (kept.rising i j e before (omega (arith, b, length-take n heads)));
      few = omega (arith, kept.few, length-take n heads);
    }

    pub entries_cut : (item : ℕ) → entries_from item left_parts left_values (take n heads) ≡ take n (entries_from item parts values heads)
    entries_cut item =
        sym (entries_same parts left_parts values left_values
        (begins_take next.parts.start parts) (begins_take next.values.start values) item (take n heads) left_lie)
        ∙ sym (take-map (entry_from item parts values) n heads)

  -- nothing is cut off where no head stands at place n
  pub entries_whole : (item n : ℕ) → length heads ≤ n → take n (entries_from item parts values heads) ≡ entries_from item parts values heads
  entries_whole item n past = take_all n (entries_from item parts values heads) (omega (arith, past, count_entries item parts values heads))
