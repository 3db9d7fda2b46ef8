-- The keys of each table of a document rise.
use Rattle.std.proofs.Common.{ℕ, zero, suc, ◌≡◌, List, [], true, ◌&&◌, cond, Option, Some, None, option_map, option_and_then, length, drop, Ordering, Less, Equal, Greater, nat_cmp, refl, subst}
use Rattle.std.specs.Prelude.{slice_index, ◌==◌}
use Rattle.std.specs.Ordering.{match_ordering}
use Rattle.std.specs.Cmp.Lexicographic.{slice_cmp}
use Rattle.std.proofs.lemmas.Bool.{and_parts}
use Rattle.std.proofs.lemmas.Option.{none-some, same_Some}
use Rattle.toml_parser.specs.Lexical.{Read, left_bracket, right_bracket, left_brace, right_brace, skip_blank, first}
use Rattle.toml_parser.specs.Strings.{Key, quoted, starts_string, recursion_limit}
use Rattle.toml_parser.specs.Numbers.{unquoted}
use Rattle.toml_parser.specs.declared.scalar.Scalar.{Scalar}
use Rattle.toml_parser.specs.declared.scalar.Scalar.TheVariants.{Boolean, Integer, Float, Datetime}
use Rattle.toml.specs.Data.{Data, string, array, table, Items, no_items, Members, no_members, member, get_member, is_before, is_sorted, items_are_sorted, members_are_sorted, push_item}
use Rattle.toml.specs.Tables.{Nodes, no_nodes, close, along_header, Definition, key_value, std_table, array_table, Expression, at_key, put, Document, define_as, define}
use Rattle.toml.specs.Parse.{keyval, key_equals, items, members, after_byte, after_element, read_map, scalar_data, atom, val, header_key, expression, line, lines, parse_document, skip_bom}
use Rattle.read_laws.proofs.SortedNodes.{mapped, chained, split, AreSorted, pushed, IsSortedDefinition, along_header_kept, at_key_kept, put_kept}

-- ---- values

abbrev IsSortedRead : Data × List ℕ → Type 0
IsSortedRead p = is_sorted p.0 ≡ true

abbrev Reads : (List ℕ → Read Data) → Type 0
Reads read = (text : List ℕ) (p : Data × List ℕ) → read text ≡ Some p → IsSortedRead p

module _ (read : List ℕ → Read Data) (reads : Reads read) where
  keyval_sorted : (text : List ℕ) (e : (Key × Data) × List ℕ) → keyval read text ≡ Some e → is_sorted e.0.1 ≡ true
  keyval_sorted text e =
      let P : ((Key × Data) × List ℕ) → Type 0 = λ q. is_sorted q.0.1 ≡ true in
      λ is. chained P _ (key_equals text) e is
      (λ k _ got. mapped P _ (read k.1) e got (λ p here. reads k.1 p here))

  items_sorted : (n : ℕ) (found : Items) (text : List ℕ) (r : Items × List ℕ) → items_are_sorted found ≡ true → items read n found text ≡ Some r → items_are_sorted r.0 ≡ true
  unfolding items
  items_sorted zero found text r all is = absurd (none-some r is)
  items_sorted (suc n) found text r all is =
      let P : Items × List ℕ → Type 0 = λ q. items_are_sorted q.0 ≡ true in
      let start : List ℕ = skip_blank text in
      let rest_of : Data × List ℕ → Option (Items × List ℕ) = λ v. option_and_then (items read n (push_item found v.0)) (after_element right_bracket v.1) in
      split P (first start == right_bracket) (Some (found, drop 1 start)) (option_and_then rest_of (read start)) r is
      (λ closed. subst P (same_Some (found, drop 1 start) r closed) all)
      (λ opens. chained P rest_of (read start) r opens
      (λ v got rest. chained P (items read n (push_item found v.0)) (after_element right_bracket v.1) r rest
      (λ left _ later. items_sorted n (push_item found v.0) left r (pushed found v.0 all (reads start v got)) later)))

  members_sorted : (n : ℕ) (found : Nodes) (text : List ℕ) (r : Members × List ℕ) → AreSorted found → members read n found text ≡ Some r → members_are_sorted r.0 ≡ true
  unfolding members
  members_sorted zero found text r all is = absurd (none-some r is)
  members_sorted (suc n) found text r all is =
      let P : Members × List ℕ → Type 0 = λ q. members_are_sorted q.0 ≡ true in
      let start : List ℕ = skip_blank text in
      let behind : (Key × Data) × List ℕ → Nodes → Option (Members × List ℕ) = λ e more. option_and_then (members read n more) (after_element right_brace e.1) in
      let rest_of : (Key × Data) × List ℕ → Option (Members × List ℕ) = λ e. option_and_then (behind e) (put e.0.0 e.0.1 found) in
      split P (first start == right_brace) (Some (close found, drop 1 start)) (option_and_then rest_of (keyval read start)) r is
      (λ closed. subst P (same_Some (close found, drop 1 start) r closed) all)
      (λ opens. chained P rest_of (keyval read start) r opens
      (λ e got rest. chained P (behind e) (put e.0.0 e.0.1 found) r rest
      (λ more kept left. chained P (members read n more) (after_element right_brace e.1) r left
      (λ text' _ later. members_sorted n more text' r (put_kept e.0.0 e.0.1 (keyval_sorted start e got) found more all kept) later))))

scalar_sorted : (x : Scalar) → is_sorted (scalar_data x) ≡ true
scalar_sorted (Boolean b) = refl
scalar_sorted (Integer z) = refl
scalar_sorted (Float f) = refl
scalar_sorted (Datetime t) = refl

atom_sorted : Reads atom
unfolding atom
atom_sorted text p is =
    split IsSortedRead (starts_string text) (read_map string (quoted text)) (read_map scalar_data (unquoted text)) p is
    (λ quotes. mapped IsSortedRead (λ (x : List ℕ × List ℕ). (string x.0, x.1)) (quoted text) p quotes (λ x _. refl))
    (λ bare. mapped IsSortedRead (λ (x : Scalar × List ℕ). (scalar_data x.0, x.1)) (unquoted text) p bare (λ x _. scalar_sorted x.0))

val_sorted : (depth : ℕ) → Reads (val depth)
unfolding val
val_sorted zero text p is = atom_sorted text p is
val_sorted (suc depth) text p is =
    let list : Option (Data × List ℕ) = read_map array (items (val depth) (length text) no_items (drop 1 text)) in
    let inline : Option (Data × List ℕ) = read_map table (members (val depth) (length text) no_nodes (drop 1 text)) in
    split IsSortedRead (first text == left_bracket) list (cond (first text == left_brace) inline (atom text)) p is
    (λ lists. mapped IsSortedRead (λ (x : Items × List ℕ). (array x.0, x.1)) (items (val depth) (length text) no_items (drop 1 text)) p lists
    (λ r got. items_sorted (val depth) (val_sorted depth) (length text) no_items (drop 1 text) r refl got))
    (λ other. split IsSortedRead (first text == left_brace) inline (atom text) p other
    (λ tables. mapped IsSortedRead (λ (x : Members × List ℕ). (table x.0, x.1)) (members (val depth) (length text) no_nodes (drop 1 text)) p tables
    (λ r got. members_sorted (val depth) (val_sorted depth) (length text) no_nodes (drop 1 text) r refl got))
    (λ bare. atom_sorted text p bare))

-- ---- lines

abbrev IsSortedExpression : Expression × List ℕ → Type 0
IsSortedExpression e = IsSortedDefinition e.0.1

expression_sorted : (text : List ℕ) (e : Expression × List ℕ) → expression text ≡ Some e → IsSortedExpression e
unfolding expression
expression_sorted text e is =
    let behind : Key × List ℕ → Option (Expression × List ℕ) = λ k. option_map (λ rest. ((k.0, array_table), rest)) (after_byte right_bracket k.1) in
    let twice : Option (Expression × List ℕ) = option_and_then behind (header_key (drop 2 text)) in
    let once : Option (Expression × List ℕ) = read_map (λ k. (k, std_table)) (header_key (drop 1 text)) in
    let pair : Option (Expression × List ℕ) = read_map (λ p. (p.0, key_value p.1)) (keyval (val recursion_limit) text) in
    split IsSortedExpression (first text == left_bracket && slice_index text 1 == left_bracket) twice (cond (first text == left_bracket) once pair) e is
    (λ array_header. chained IsSortedExpression behind (header_key (drop 2 text)) e array_header
    (λ k _ rest. mapped IsSortedExpression (λ (t : List ℕ). ((k.0, array_table), t)) (after_byte right_bracket k.1) e rest (λ t _. tt)))
    (λ other. split IsSortedExpression (first text == left_bracket) once pair e other
    (λ table_header. mapped IsSortedExpression (λ (k : Key × List ℕ). ((k.0, std_table), k.1)) (header_key (drop 1 text)) e table_header (λ k _. tt))
    (λ line. mapped IsSortedExpression (λ (p : (Key × Data) × List ℕ). ((p.0.0, key_value p.0.1), p.1)) (keyval (val recursion_limit) text) e line
    (λ p got. keyval_sorted (val recursion_limit) (val_sorted recursion_limit) text p got)))

line_sorted : (text : List ℕ) (e : Expression × List ℕ) → line text ≡ Some e → IsSortedExpression e
unfolding line
line_sorted text e is =
    chained IsSortedExpression _ (expression text) e is
    (λ x got rest. split IsSortedExpression _ (Some x) None e rest
    (λ same. subst IsSortedExpression (same_Some x e same) (expression_sorted text x got))
    (λ none. absurd (none-some e none)))

abbrev IsSortedDocument : Document → Type 0
IsSortedDocument doc = AreSorted doc.0

defined_as : (doc next : Document) (key : Key) (what : Definition) → IsSortedDocument doc → IsSortedDefinition what → define_as doc key what ≡ Some next → IsSortedDocument next
defined_as doc next key (key_value d) all sorted is =
    mapped IsSortedDocument _ (along_header doc.1 (put key d) doc.0) next is
    (λ root edited. along_header_kept (put key d) (put_kept key d sorted) doc.1 doc.0 root all edited)
defined_as doc next key std_table all sorted is =
    mapped IsSortedDocument _ (along_header key.0 (at_key key.1 std_table) doc.0) next is
    (λ root edited. along_header_kept (at_key key.1 std_table) (at_key_kept key.1 std_table tt) key.0 doc.0 root all edited)
defined_as doc next key array_table all sorted is =
    mapped IsSortedDocument _ (along_header key.0 (at_key key.1 array_table) doc.0) next is
    (λ root edited. along_header_kept (at_key key.1 array_table) (at_key_kept key.1 array_table tt) key.0 doc.0 root all edited)

defined : (doc next : Document) (e : Expression) → IsSortedDocument doc → IsSortedDefinition e.1 → define doc e ≡ Some next → IsSortedDocument next
unfolding define
defined doc next e all sorted is = defined_as doc next e.0 e.1 all sorted is

lines_sorted : (n : ℕ) (doc last : Document) (text : List ℕ) → IsSortedDocument doc → lines n doc text ≡ Some last → IsSortedDocument last
unfolding lines
lines_sorted zero doc last text all is = absurd (none-some last is)
lines_sorted (suc n) doc last text all is =
    split IsSortedDocument _ (Some doc) _ last is
    (λ ended. subst IsSortedDocument (same_Some doc last ended) all)
    (λ goes. chained IsSortedDocument _ (line (skip_blank text)) last goes
    (λ e got rest. chained IsSortedDocument _ (define doc e.0) last rest
    (λ next made later. lines_sorted n next last e.1 (defined doc next e.0 all (line_sorted (skip_blank text) e got) made) later)))

pub document_sorted : (text : List ℕ) (ms : Members) → parse_document text ≡ Some ms → members_are_sorted ms ≡ true
unfolding parse_document
document_sorted text ms is =
    mapped (λ (m : Members). members_are_sorted m ≡ true) _ (lines (suc (length text)) (no_nodes, []) (skip_bom text)) ms is
    (λ doc got. lines_sorted (suc (length text)) (no_nodes, []) doc (skip_bom text) refl got)

-- ---- what a sorted table holds

pub member_sorted : (key : List ℕ) (ms : Members) (d : Data) → members_are_sorted ms ≡ true → get_member key ms ≡ Some d → is_sorted d ≡ true
member_sorted key no_members d all is = absurd (none-some d is)
member_sorted key (member k e ms) d all is =
    let (front, more) = and_parts (is_before k ms && is_sorted e) (members_are_sorted ms) all in
    by (member_sorted key ms d more) (and_parts (is_before k ms) (is_sorted e) front).1 (slice_cmp nat_cmp key k) is
  where
    by : (get_member key ms ≡ Some d → is_sorted d ≡ true) → is_sorted e ≡ true → (o : Ordering) → match_ordering o (get_member key ms) (Some e) (get_member key ms) ≡ Some d → is_sorted d ≡ true
    by later here Less got = later got
    by later here Equal got = subst (λ x. is_sorted x ≡ true) (same_Some e d got) here
    by later here Greater got = later got
