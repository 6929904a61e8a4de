-- A written text reads back as the same transitions.
use Rattle.std.proofs.Common.{◌≡◌, ℕ, zero, suc, ◌+◌, ◌*◌, ◌<◌, ◌≤◌, Bool, true, false, cond, not, eqb, ltb, List, [], ◌∷◌, ◌++◌, length, get_or, is_some, Some, None, Ok, Err, unwrap_or, sym, refl, ap, ◌∙◌, subst, ⊎_elim, arith}
use Rattle.std.specs.Option.{option_map}
use Rattle.std.specs.List.{slice_get}
use Rattle.std.proofs.lemmas.List.{append-nil, length-map, map-append}
use Rattle.std.proofs.lemmas.List.Elements.{filter-append}
use Rattle.std.proofs.lemmas.List.Folds.{list_all-append}
use Rattle.std.proofs.lemmas.Bool.{and_parts, and_from, cond-true, cond-false, cases_lt, eq-eqb, ne_eqb, lt-ltb, le-ltb, ltb-false}
use Rattle.std.proofs.lemmas.Fmt.{length-decimal-le}
use Rattle.base.specs.declared.refusal.Refusal.{Refusal}
use Rattle.base.specs.declared.refusal.Refusal.TheVariants.{Short, Nameless, TooBig}
use Rattle.base.specs.declared.labels.Labels.{Labels}
use Rattle.base.specs.Listing.{lawful}
use Rattle.meaning.specs.Lts.{Slot, Lts}
use Rattle.model.specs.declared.cell.Cell.{Cell}
use Rattle.model.specs.Cells.{blank, slot_of, grid_refusal}
use Rattle.aut.specs.declared.header.Header.{Header}
use Rattle.aut.specs.Form.{Transition, Form}
use Rattle.aut.specs.Systems.{leaving}
use Rattle.aut.specs.Reading.{met, all_within, cell_or_blank, RightSize, InRange, HasRoom, TextRefused, too_large, no_form, out_of_range, few_cells, no_room, TextRead}
use Rattle.aut.specs.Writing.{Move, slot_moves, moves_at, moves_of, moves_below, moves, head_text, moves_text, text_of, all_have_names, write_answer}
use Rattle.aut.specs.Back.{as_line, as_lines, header_for, Back, ReadsBack}
use Rattle.aut.proofs.Apart.{not_ok}
use Rattle.aut.proofs.Spelled.{all_are_names, has_action_at, action_at}
use Rattle.aut.proofs.Lengths.{head-long}
use Rattle.aut.proofs.Moves.{text_below, text_long}
use Rattle.aut.proofs.Same.{kept, none_new}
use Rattle.aut.proofs.Readings.{one_reading}
use Rattle.aut.proofs.Forms.{AllFit, no_moves, move, line_one, lines_of-moves}

-- what holds of each transition of a list
data Each (P : Move → Type 0) : List Move → Type 0 where
  ends : Each P []
  and : {m : Move} {ms : List Move} → P m → Each P ms → Each P (m ∷ ms)

each_append : (P : Move → Type 0) (a b : List Move) → Each P a → Each P b → Each P (a ++ b)
each_append P [] b ends q = q
each_append P (m ∷ a) b (and p ps) q = and p (each_append P a b ps q)

-- a transition within a model
abbrev Inside : Lts → Move → Type 0
Inside M m = (m.from < M.states) × (m.label < 64) × (m.to < M.states)

slot-inside : (M : Lts) (s k : ℕ) (x : Slot) → s < M.states → M.slot s k ≡ x → Each (Inside M) (slot_moves s x)
slot-inside M s k None h e = ends
slot-inside M s k (Some p) h e = and (h, M.lawful.acts s k p.0 p.1 e, M.lawful.stays_in s k p.0 p.1 e) ends

inside-at : (M : Lts) (s k : ℕ) → s < M.states → Each (Inside M) (moves_at M s k)
inside-at M s zero h = ends
inside-at M s (suc k) h = each_append (Inside M) (moves_at M s k) (slot_moves s (M.slot s k)) (inside-at M s k h) (slot-inside M s k (M.slot s k) h refl)

inside_below : (M : Lts) (n : ℕ) → n ≤ M.states → Each (Inside M) (moves_below M n)
inside_below M zero h = ends
inside_below M (suc n) h = each_append (Inside M) (moves_below M n) (moves_of M n) (inside_below M n (omega arith)) (inside-at M n M.slots (omega arith))

-- the lines are of the form, and within the states
fits : (M : Lts) (names : List (List ℕ)) (ms : List Move) → Each (Inside M) ms → all_have_names names ms ≡ true → AllFit names ms
fits M names [] ends h = no_moves
fits M names (m ∷ ms) (and p ps) h =
    let q = and_parts (is_some (slice_get names m.label)) (all_have_names names ms) h in let most = M.lawful.few_states in
    move (record { from = omega (arith, p.0); to = omega (arith, p.2); named = q.0 }) (fits M names ms ps q.1)

lines-within : (M : Lts) (names : List (List ℕ)) (ms : List Move) → Each (Inside M) ms → all_within M.states (as_lines names ms) ≡ true
lines-within M names [] ends = refl
lines-within M names (m ∷ ms) (and p ps) = and_from _ _ (and_from _ _ (lt-ltb _ _ p.0) (lt-ltb _ _ p.2)) (lines-within M names ms ps)

-- the transitions of a state among the lines
leaving-append : (s : ℕ) (a b : List Transition) → leaving s (a ++ b) ≡ leaving s a ++ leaving s b
leaving-append s a b = filter-append (λ l. eqb l.from s) a b

slot_own : (names : List (List ℕ)) (s : ℕ) (x : Slot) → leaving s (as_lines names (slot_moves s x)) ≡ as_lines names (slot_moves s x)
slot_own names s None = refl
slot_own names s (Some p) = cond-true _ _ _ (eq-eqb s s refl)

slot_other : (names : List (List ℕ)) (n s : ℕ) (x : Slot) → (n ≡ s → ⊥) → leaving s (as_lines names (slot_moves n x)) ≡ []
slot_other names n s None h = refl
slot_other names n s (Some p) h = cond-false _ _ _ (ne_eqb n s h)

own_state : (M : Lts) (names : List (List ℕ)) (s k : ℕ) → leaving s (as_lines names (moves_at M s k)) ≡ as_lines names (moves_at M s k)
own_state M names s zero = refl
own_state M names s (suc k) =
    let a = moves_at M s k in let b = slot_moves s (M.slot s k) in
    ap (leaving s) (map-append (as_line names) a b) ∙ leaving-append s (as_lines names a) (as_lines names b)
    ∙ ap (λ x. x ++ leaving s (as_lines names b)) (own_state M names s k) ∙ ap (λ x. as_lines names a ++ x) (slot_own names s (M.slot s k)) ∙ sym (map-append (as_line names) a b)

other_state : (M : Lts) (names : List (List ℕ)) (n s k : ℕ) → (n ≡ s → ⊥) → leaving s (as_lines names (moves_at M n k)) ≡ []
other_state M names n s zero h = refl
other_state M names n s (suc k) h =
    let a = moves_at M n k in let b = slot_moves n (M.slot n k) in
    ap (leaving s) (map-append (as_line names) a b) ∙ leaving-append s (as_lines names a) (as_lines names b)
    ∙ ap (λ x. x ++ leaving s (as_lines names b)) (other_state M names n s k h) ∙ slot_other names n s (M.slot n k) h

none_yet : (M : Lts) (names : List (List ℕ)) (n s : ℕ) → n ≤ s → leaving s (as_lines names (moves_below M n)) ≡ []
none_yet M names zero s h = refl
none_yet M names (suc n) s h =
    let a = moves_below M n in let b = moves_of M n in
    ap (leaving s) (map-append (as_line names) a b) ∙ leaving-append s (as_lines names a) (as_lines names b)
    ∙ ap (λ x. x ++ leaving s (as_lines names b)) (none_yet M names n s (omega arith)) ∙ other_state M names n s M.slots (λ e. omega arith)

pub leaving-is : (M : Lts) (names : List (List ℕ)) (n s : ℕ) → s < n → leaving s (as_lines names (moves_below M n)) ≡ as_lines names (moves_of M s)
leaving-is M names zero s h = absurd (omega arith)
leaving-is M names (suc n) s h =
    let a = moves_below M n in let b = moves_of M n in
    ap (leaving s) (map-append (as_line names) a b) ∙ leaving-append s (as_lines names a) (as_lines names b)
    ∙ ⊎_elim (λ l. earlier l (leaving-is M names n s l)) here (cases_lt s n)
  where
    earlier : s < n → leaving s (as_lines names (moves_below M n)) ≡ as_lines names (moves_of M s) →
        leaving s (as_lines names (moves_below M n)) ++ leaving s (as_lines names (moves_of M n)) ≡ as_lines names (moves_of M s)
    earlier l e =
        ap (λ x. x ++ leaving s (as_lines names (moves_of M n))) e
        ∙ ap (λ x. as_lines names (moves_of M s) ++ x) (other_state M names n s M.slots (λ z. omega arith)) ∙ append-nil (as_lines names (moves_of M s))

    here : n ≤ s → leaving s (as_lines names (moves_below M n)) ++ leaving s (as_lines names (moves_of M n)) ≡ as_lines names (moves_of M s)
    here l =
        let e : n ≡ s = omega arith in
        ap (λ x. x ++ leaving s (as_lines names (moves_of M n))) (none_yet M names n s l)
        ∙ ap (λ x. leaving s (as_lines names (moves_of M x))) e ∙ own_state M names s M.slots

-- no label is new
met-none : (names : List (List ℕ)) (ms : List Move) → all_have_names names ms ≡ true → met names (as_lines names ms) ≡ names
met-none names [] h = refl
met-none names (m ∷ ms) h =
    let q = and_parts (is_some (slice_get names m.label)) (all_have_names names ms) h in
    ap (λ x. met x (as_lines names ms)) (cond-true _ _ _ (has_action_at names m.label q.0)) ∙ met-none names ms q.1

-- all transitions of a state have names where all of the model have
have_both : (names : List (List ℕ)) (a b : List Move) → all_have_names names (a ++ b) ≡ true → (all_have_names names a ≡ true) × (all_have_names names b ≡ true)
have_both names a b h = and_parts (all_have_names names a) (all_have_names names b) (sym (list_all-append (λ m. is_some (slice_get names m.label)) a b) ∙ h)

have_of : (M : Lts) (names : List (List ℕ)) (n s : ℕ) → s < n → all_have_names names (moves_below M n) ≡ true → all_have_names names (moves_of M s) ≡ true
have_of M names zero s l h = absurd (omega arith)
have_of M names (suc n) s l h =
    ⊎_elim (λ k. have_of M names n s k ((have_both names (moves_below M n) (moves_of M n) h).0))
    (λ k. let e : n ≡ s = omega arith in ap (λ x. all_have_names names (moves_of M x)) (sym e) ∙ (have_both names (moves_below M n) (moves_of M n) h).1) (cases_lt s n)

-- a cell holds the transition that its line came from
cell_back : (names : List (List ℕ)) (ms : List Move) (k : ℕ) → lawful names ≡ true → all_have_names names ms ≡ true →
    slot_of (cell_or_blank names (slice_get (as_lines names ms) k)) ≡ option_map (λ m. (m.label, m.to)) (slice_get ms k)
cell_back names [] k law h = refl
cell_back names (m ∷ ms) zero law h =
    let q = and_parts (is_some (slice_get names m.label)) (all_have_names names ms) h in
    ap (λ o. Some (unwrap_or o 0, m.to)) (action_at names m.label law q.0)
cell_back names (m ∷ ms) (suc k) law h = cell_back names ms k law (and_parts (is_some (slice_get names m.label)) (all_have_names names ms) h).1

-- writing that is not refused: not too many transitions, and names for all
module _ (M : Lts) (names : List (List ℕ)) (room n : ℕ) (ok : write_answer M names room ≡ Ok n) where
  pub not_many : length (moves M) ≤ 65536
  not_many = at (ltb 65536 (length (moves M))) refl ok
    where
      at : (b : Bool) → ltb 65536 (length (moves M)) ≡ b →
          cond b (Err TooBig) (cond (not (all_have_names names (moves M))) (Err Nameless) (cond (ltb room (length (text_of M names))) (Err Short) (Ok (length (text_of M names))))) ≡ Ok n → length (moves M) ≤ 65536
      at true e k = not_ok _ k
      at false e k = ltb-false 65536 (length (moves M)) e

  pub have_names : all_have_names names (moves M) ≡ true
  have_names = at (all_have_names names (moves M)) refl (sym (cond-false _ _ _ (le-ltb 65536 (length (moves M)) not_many)) ∙ ok)
    where
      at : (b : Bool) → all_have_names names (moves M) ≡ b → cond (not b) (Err Nameless) (cond (ltb room (length (text_of M names))) (Err Short) (Ok (length (text_of M names)))) ≡ Ok n → all_have_names names (moves M) ≡ true
      at true e k = e
      at false e k = cc

module _ (M : Lts) (before : Labels) (law : lawful before ≡ true) (short_list : length before ≤ 64) (room w size : ℕ) (ok : write_answer M before room ≡ Ok (length (text_of M before)))
    (some : 1 ≤ w) (wide : w ≤ 64) (few : (s : ℕ) → s < M.states → length (moves_of M s) ≤ w) (enough : M.states * w ≤ size) where
  abbrev names : List (List ℕ)
  names = before

  abbrev ls : List Transition
  ls = as_lines names (moves M)

  many : length (moves M) ≤ 65536
  many = not_many M names room _ ok

  have : all_have_names names (moves M) ≡ true
  have = have_names M names room _ ok

  inside : Each (Inside M) (moves M)
  inside = inside_below M M.states (omega arith)

  form : Form (text_of M names) (header_for M) ls
  form =
      let i = M.lawful.begins in let n = M.lawful.few_states in
      record {
        first = head_text M.start (length (moves M)) M.states;
        rest = moves_text names (moves M);
        first_is = line_one M.start (length (moves M)) M.states (omega arith) (omega (arith, many)) (omega arith);
        rest_is = lines_of-moves names (moves M) (all_are_names names law) (fits M names (moves M) inside have);
        counted = length-map (moves M) (as_line names);
        reads = refl;
      }

  size_right : RightSize 2500000 w (text_of M names)
  size_right =
      let i = M.lawful.begins in let n = M.lawful.few_states in
      record {
        short = omega (
          arith,
          text_long M names,
          text_below M names law M.states M.lawful.few_states,
          many,
          head-long M.start (length (moves M)) M.states,
          length-decimal-le 5 M.start (omega arith) (omega arith) (omega arith),
          length-decimal-le 5 (length (moves M)) (omega arith) (omega (arith, many)) (omega (arith, many)),
          length-decimal-le 5 M.states (omega arith) (omega arith) (omega arith),
        );
        some_slots = some;
        few_slots = wide;
      }

  roomy : HasRoom M.states w names ls
  roomy = record {
    slots = λ s h. omega (arith, ap length (leaving-is M names M.states s h), length-map (moves_of M s) (as_line names), few s h);
    labels = omega (arith, ap length (met-none names (moves M) have), short_list);
  }

  range : InRange 65536 (header_for M) ls
  range = record {
    some_states = M.lawful.some_states;
    few_states = M.lawful.few_states;
    allowed = M.lawful.few_states;
    begins = M.lawful.begins;
    few_transitions = many;
    stays_in = lines-within M names (moves M) inside;
  }

  -- no check fails
  not_refused : (e : Refusal) → TextRefused (text_of M names) 65536 w names size e → ⊥
  not_refused e (too_large wrong) = wrong size_right
  not_refused e (no_form right none) = none (header_for M) ls form
  not_refused e (out_of_range {h} {ls} right f wrong) =
      let p = one_reading (text_of M names) (header_for M) h _ ls form f in
      wrong (subst (λ x. InRange 65536 x ls) p.0 (subst (InRange 65536 (header_for M)) p.1 range))
  not_refused e (few_cells {h} {ls} right f in-range short) =
      let p = one_reading (text_of M names) (header_for M) h _ ls form f in
      let n : M.states * w ≡ h.states * w = ap (λ (x : Header). x.states * w) p.0 in absurd (omega (arith, enough))
  not_refused e (no_room {h} {ls} right f in-range long wrong) =
      let p = one_reading (text_of M names) (header_for M) h _ ls form f in
      wrong (subst (λ (x : Header). HasRoom x.states w names ls) p.0 (subst (HasRoom M.states w names) p.1 roomy))

-- a text that is read
module _ (M : Lts) (before after : Labels) (law : lawful before ≡ true) (short_list : length before ≤ 64) (room w : ℕ) (cells cells' : List Cell) (ok : write_answer M before room ≡ Ok (length (text_of M before)))
    (some : 1 ≤ w) (wide : w ≤ 64) (few : (s : ℕ) → s < M.states → length (moves_of M s) ≤ w) (enough : M.states * w ≤ length cells)
    (h : Header) (read : TextRead (text_of M before) 65536 w before after cells cells' h) where
  same : (header_for M ≡ h) × (as_lines before (moves M) ≡ read.lines)
  same = one_reading (text_of M before) (header_for M) h _ read.lines (form M before law short_list room w (length cells) ok some wide few enough) read.form

  states : M.states ≡ h.states
  states = ap (λ (x : Header). x.states) same.0

  all : all_have_names before (moves M) ≡ true
  all = have M before law short_list room w (length cells) ok some wide few enough

  labels : after ≡ before
  labels = read.named ∙ ap (met before) (sym same.1) ∙ met-none before (moves M) all

  slots : (s k : ℕ) → s < M.states → k < w → slot_of (get_or cells' (s * w + k) blank) ≡ option_map (λ m. (m.label, m.to)) (slice_get (moves_of M s) k)
  slots s k l j =
      ap slot_of (read.filled.slots s k (omega (arith, states)) j)
      ∙ ap (λ n. slot_of (cell_or_blank n (slice_get (leaving s read.lines) k))) labels
      ∙ ap (λ x. slot_of (cell_or_blank before (slice_get (leaving s x) k))) (sym same.1)
      ∙ ap (λ x. slot_of (cell_or_blank before (slice_get x k))) (leaving-is M before M.states s l)
      ∙ cell_back before (moves_of M s) k law (have_of M before M.states s l all)

  pub back : Back M w before after cells' (Ok h)
  back = record {
    answer = ap Ok (sym same.0);
    labels = labels;
    slots = slots;
    grid = ap (λ (x : Header). grid_refusal cells' x.states w x.start) same.0 ∙ read.grid;
    transitions = λ G over s a t. (kept M w cells' few slots G over s a t, none_new M w cells' few slots G over s a t);
  }

pub reads-back : ReadsBack
reads-back M before after room w cells cells' (Ok h) law short_list ok some wide few enough read = back M before after law short_list room w cells cells' ok some wide few enough h read
reads-back M before after room w cells cells' (Err e) law short_list ok some wide few enough read =
    absurd (not_refused M before law short_list room w (length cells) ok some wide few enough e read.0)
