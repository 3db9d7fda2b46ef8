-- The keys of each table of a document rise, whatever its lines define.
use Rattle.std.proofs.Common.{◌≡◌, List, [], ◌∷◌, Bool, true, false, ◌&&◌, cond, Option, Some, None, option_map, option_and_then, Ordering, Less, Equal, Greater, nat_cmp, refl, ap, ◌∙◌, subst, ℕ}
use Rattle.std.specs.Ordering.{is_lt, match_ordering, ordering_reverse}
use Rattle.std.specs.Cmp.Lexicographic.{slice_cmp}
use Rattle.std.proofs.lemmas.Bool.{and_parts, and_from}
use Rattle.std.proofs.lemmas.Cmp.{nat_list_cmp_total}
use Rattle.std.proofs.lemmas.Option.{none-some, same_Some, option_and_then_some}
use Rattle.toml_parser.specs.Strings.{Key}
use Rattle.toml.specs.Data.{Data, table, Items, no_items, item, no_members, is_before, is_sorted, items_are_sorted, members_are_sorted, same_key, push_item}
use Rattle.toml.specs.Tables.{implicit, dotted, header, Node, Nodes, no_nodes, node, value, open_table, open_array, get_node, insert, replace, close, close_node, Edit, header_node, dot_node, along_header, along_dots, Definition, key_value, std_table, array_table, new_node, redefine, at_found, at_key, put}

-- ---- options

module _ {A B : Type 0} where
  pub mapped : (P : B → Type 0) (f : A → B) (o : Option A) (y : B) → option_map f o ≡ Some y → ((x : A) → o ≡ Some x → P (f x)) → P y
  mapped P f None y is each = absurd (none-some y is)
  mapped P f (Some x) y is each = subst P (same_Some (f x) y is) (each x refl)

  pub chained : (P : B → Type 0) (f : A → Option B) (o : Option A) (y : B) → option_and_then f o ≡ Some y → ((x : A) → o ≡ Some x → f x ≡ Some y → P y) → P y
  chained P f o y is each = option_and_then_some f o y is each

pub split : {A : Type 0} (P : A → Type 0) (b : Bool) (x y : Option A) (z : A) → cond b x y ≡ Some z → (x ≡ Some z → P z) → (y ≡ Some z → P z) → P z
split P true x y z is first later = first is
split P false x y z is first later = later is

-- ---- nodes

abbrev pub AreSorted : Nodes → Type 0
AreSorted ns = members_are_sorted (close ns) ≡ true

abbrev IsSortedNode : Node → Type 0
IsSortedNode x = is_sorted (close_node x) ≡ true

pub pushed : (ds : Items) (d : Data) → items_are_sorted ds ≡ true → is_sorted d ≡ true → items_are_sorted (push_item ds d) ≡ true
pushed no_items d all here = and_from _ _ here refl
pushed (item e ds) d all here =
    let (first, rest) = and_parts (is_sorted e) (items_are_sorted ds) all in
    and_from _ _ first (pushed ds d rest here)

push_parts : (ds : Items) (d : Data) → items_are_sorted (push_item ds d) ≡ true → (items_are_sorted ds ≡ true) × (is_sorted d ≡ true)
push_parts no_items d all = (refl, (and_parts (is_sorted d) true all).0)
push_parts (item e ds) d all =
    let (first, rest) = and_parts (is_sorted e) (items_are_sorted (push_item ds d)) all in
    let (more, here) = push_parts ds d rest in
    (and_from _ _ first more, here)

record IsSortedFront (k : List ℕ) (x : Node) (ns : Nodes) : Type 0 where
  pub before : is_before k (close ns) ≡ true
  pub here : IsSortedNode x
  pub later : AreSorted ns

parts : (k : List ℕ) (x : Node) (ns : Nodes) → AreSorted (node k x ns) → IsSortedFront k x ns
parts k x ns all =
    let (front, later) = and_parts (is_before k (close ns) && is_sorted (close_node x)) (members_are_sorted (close ns)) all in
    let (before, here) = and_parts (is_before k (close ns)) (is_sorted (close_node x)) front in
    record { before = before; here = here; later = later }

joined : (k : List ℕ) (x : Node) (ns : Nodes) → is_before k (close ns) ≡ true → IsSortedNode x → AreSorted ns → AreSorted (node k x ns)
joined k x ns before here later = and_from _ _ (and_from _ _ before here) later

found : (k : List ℕ) (ns : Nodes) (x : Node) → AreSorted ns → get_node k ns ≡ Some x → IsSortedNode x
found k no_nodes x all is = absurd (none-some x is)
found k (node l y ns) x all is =
    split IsSortedNode (same_key k l) (Some y) (get_node k ns) x is
    (λ same. subst IsSortedNode (same_Some y x same) (parts l y ns all).here)
    (λ later. found k ns x (parts l y ns all).later later)

module _ (k : List ℕ) (x : Node) where
  replace_before : (l : List ℕ) (ns : Nodes) → is_before l (close ns) ≡ true → is_before l (close (replace k x ns)) ≡ true
  replace_before l no_nodes h = refl
  replace_before l (node m y ns) h = by (same_key k m)
    where
      by : (b : Bool) → is_before l (close (cond b (node m x ns) (node m y (replace k x ns)))) ≡ true
      by true = h
      by false = h

  replaced : IsSortedNode x → (ns : Nodes) → AreSorted ns → AreSorted (replace k x ns)
  replaced here no_nodes all = refl
  replaced here (node l y ns) all = by (same_key k l) (replaced here ns (parts l y ns all).later)
    where
      by : (b : Bool) → AreSorted (replace k x ns) → AreSorted (cond b (node l x ns) (node l y (replace k x ns)))
      by true later = joined l x ns (parts l y ns all).before here (parts l y ns all).later
      by false later = joined l y (replace k x ns) (replace_before l ns (parts l y ns all).before) (parts l y ns all).here later

  above : (l : List ℕ) → slice_cmp nat_cmp k l ≡ Greater → is_lt (slice_cmp nat_cmp l k) ≡ true
  above l greater = ap is_lt (nat_list_cmp_total.antisymm l k ∙ ap ordering_reverse greater)

  insert_before : (l : List ℕ) (ns : Nodes) → is_before l (close ns) ≡ true → is_lt (slice_cmp nat_cmp l k) ≡ true → is_before l (close (insert k x ns)) ≡ true
  insert_before l no_nodes h less = less
  insert_before l (node m y ns) h less = by (slice_cmp nat_cmp k m)
    where
      by : (o : Ordering) → is_before l (close (match_ordering o (node k x (node m y ns)) (node m x ns) (node m y (insert k x ns)))) ≡ true
      by Less = less
      by Equal = h
      by Greater = h

  inserted : IsSortedNode x → (ns : Nodes) → AreSorted ns → AreSorted (insert k x ns)
  inserted here no_nodes all = joined k x no_nodes refl here refl
  inserted here (node l y ns) all = by (slice_cmp nat_cmp k l) refl (inserted here ns (parts l y ns all).later)
    where
      by : (o : Ordering) → slice_cmp nat_cmp k l ≡ o → AreSorted (insert k x ns) → AreSorted (match_ordering o (node k x (node l y ns)) (node l x ns) (node l y (insert k x ns)))
      by Less is later = joined k x (node l y ns) (ap is_lt is) here all
      by Equal is later = joined l x ns (parts l y ns all).before here (parts l y ns all).later
      by Greater is later = joined l y (insert k x ns) (insert_before l ns (parts l y ns all).before (above l is)) (parts l y ns all).here later

-- ---- edits

abbrev pub Keeps : Edit → Type 0
Keeps edit = (ns ms : Nodes) → AreSorted ns → edit ns ≡ Some ms → AreSorted ms

module _ (edit : Edit) (keeps : Keeps edit) where
  header_kept : (x y : Node) → IsSortedNode x → header_node edit x ≡ Some y → IsSortedNode y
  header_kept (value d) y here is = absurd (none-some y is)
  header_kept (open_table origin inner) y here is =
      mapped IsSortedNode (open_table origin) (edit inner) y is (λ new edited. keeps inner new here edited)
  header_kept (open_array done last) y here is =
      let (front, back) = push_parts done (table (close last)) here in
      mapped IsSortedNode (open_array done) (edit last) y is (λ new edited. pushed done (table (close new)) front (keeps last new back edited))

  dot_kept : (x y : Node) → IsSortedNode x → dot_node edit x ≡ Some y → IsSortedNode y
  dot_kept (value d) y here is = absurd (none-some y is)
  dot_kept (open_table header inner) y here is = absurd (none-some y is)
  dot_kept (open_table implicit inner) y here is =
      mapped IsSortedNode (open_table dotted) (edit inner) y is (λ new edited. keeps inner new here edited)
  dot_kept (open_table dotted inner) y here is =
      mapped IsSortedNode (open_table dotted) (edit inner) y is (λ new edited. keeps inner new here edited)
  dot_kept (open_array done last) y here is = absurd (none-some y is)

-- an edit at a key, which may be missing
at_kept : (edit : Edit) → Keeps edit → (fresh : Nodes → Node) → ((ns : Nodes) → AreSorted ns → IsSortedNode (fresh ns))
    → (inside : Node → Option Node) → ((x y : Node) → IsSortedNode x → inside x ≡ Some y → IsSortedNode y)
    → (k : List ℕ) (ns ms : Nodes) → AreSorted ns → (there : Option Node) → get_node k ns ≡ there
    → elim there as (λ _. Option Nodes) [ None ↦ option_map (λ new. insert k (fresh new) ns) (edit no_nodes) | Some x ↦ option_map (λ new. replace k new ns) (inside x) ] ≡ Some ms
    → AreSorted ms
at_kept edit keeps fresh sorted inside kept k ns ms all None at is =
    mapped AreSorted (λ new. insert k (fresh new) ns) (edit no_nodes) ms is
    (λ new edited. inserted k (fresh new) (sorted new (keeps no_nodes new refl edited)) ns all)
at_kept edit keeps fresh sorted inside kept k ns ms all (Some x) at is =
    mapped AreSorted (λ new. replace k new ns) (inside x) ms is
    (λ new edited. replaced k new (kept x new (found k ns x all at) edited) ns all)

pub along_header_kept : (edit : Edit) → Keeps edit → (path : List (List ℕ)) → Keeps (along_header path edit)
unfolding along_header
along_header_kept edit keeps [] ns ms all is = keeps ns ms all is
along_header_kept edit keeps (k ∷ path) ns ms all is =
    let later = along_header_kept edit keeps path in
    at_kept (along_header path edit) later (open_table implicit) (λ new sorted. sorted) (header_node (along_header path edit))
    (header_kept (along_header path edit) later) k ns ms all (get_node k ns) refl is

along_dots_kept : (edit : Edit) → Keeps edit → (path : List (List ℕ)) → Keeps (along_dots path edit)
unfolding along_dots
along_dots_kept edit keeps [] ns ms all is = keeps ns ms all is
along_dots_kept edit keeps (k ∷ path) ns ms all is =
    let later = along_dots_kept edit keeps path in
    at_kept (along_dots path edit) later (open_table dotted) (λ new sorted. sorted) (dot_node (along_dots path edit))
    (dot_kept (along_dots path edit) later) k ns ms all (get_node k ns) refl is

-- ---- definitions

abbrev pub IsSortedDefinition : Definition → Type 0
IsSortedDefinition (key_value d) = is_sorted d ≡ true
IsSortedDefinition std_table = Unit {0}
IsSortedDefinition array_table = Unit {0}

new_sorted : (what : Definition) → IsSortedDefinition what → IsSortedNode (new_node what)
new_sorted (key_value d) h = h
new_sorted std_table h = refl
new_sorted array_table h = refl

redefined : (what : Definition) (x y : Node) → IsSortedNode x → redefine what x ≡ Some y → IsSortedNode y
redefined std_table (open_table implicit inner) y here is = subst IsSortedNode (same_Some (open_table header inner) y is) here
redefined array_table (open_array done last) y here is =
    subst IsSortedNode (same_Some (open_array (push_item done (table (close last))) no_nodes) y is) (pushed (push_item done (table (close last))) (table no_members) here refl)
redefined what x y here is = absurd (none-some y is)

pub at_key_kept : (k : List ℕ) (what : Definition) → IsSortedDefinition what → Keeps (at_key k what)
unfolding at_key
at_key_kept k what sorted ns ms all is = by (get_node k ns) refl is
  where
    by : (there : Option Node) → get_node k ns ≡ there → at_found k what ns there ≡ Some ms → AreSorted ms
    by None at got = subst AreSorted (same_Some (insert k (new_node what) ns) ms got) (inserted k (new_node what) (new_sorted what sorted) ns all)
    by (Some x) at got =
        mapped AreSorted (λ y. replace k y ns) (redefine what x) ms got
        (λ y edited. replaced k y (redefined what x y (found k ns x all at) edited) ns all)

pub put_kept : (key : Key) (d : Data) → is_sorted d ≡ true → Keeps (put key d)
put_kept key d sorted = along_dots_kept (at_key key.1 (key_value d)) (at_key_kept key.1 (key_value d) sorted) key.0
