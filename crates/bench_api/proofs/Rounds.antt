-- Reading a text again, and marking a formula again.
use Rattle.std.proofs.Common.{◌≡◌, ℕ, ◌*◌, ◌<◌, ◌≤◌, List, length, Err, ◌∙◌, subst, arith}
use Rattle.base.specs.declared.labels.Labels.{Labels}
use Rattle.base.specs.declared.refusal.Refusal.{Refusal}
use Rattle.base.specs.declared.refusal.Refusal.TheVariants.{Short, Garbled, Range, Crowded, Grammar, Nameless, Full, Unheard, Silent, TooBig}
use Rattle.meaning.specs.Lts.{Lts}
use Rattle.shelf.specs.Sheets.{Sheets}
use Rattle.model.specs.declared.cell.Cell.{Cell}
use Rattle.aut.specs.declared.header.Header.{Header}
use Rattle.aut.specs.Agreement.{OneReading}
use Rattle.aut.specs.Reading.{InRange, HasRoom, TextRefused, too_large, no_form, out_of_range, few_cells, no_room}
use Rattle.formula.specs.declared.nodes.Nodes.{Nodes}
use Rattle.formula.specs.Nodes.{roots}
use Rattle.marking.specs.Marking.{Marked}
use Rattle.bench_api.specs.Reading.{tau_alone, FreshRead}

module _ (one : OneReading) (text : List ℕ) (w : ℕ) (cells mid : List Cell) (h : Header) (labels : Labels) (p : FreshRead text w cells mid h labels) where
  -- a second reading leaves what it alone would have left
  pub read_again : (cells' : List Cell) (h' : Header) (labels' : Labels) → FreshRead text w mid cells' h' labels' → FreshRead text w cells cells' h' labels'
  read_again cells' h' labels' q =
      let same = (one text h' h q.lines p.lines q.form p.form).0 in
      record {
        lines = q.lines;
        size = q.size;
        form = q.form;
        range = q.range;
        enough = omega (arith, q.enough, p.filled.long);
        room = q.room;
        named = q.named;
        filled = record {
          slots = q.filled.slots;
          past = λ i b. q.filled.past i b ∙ p.filled.past i (subst (λ x. x.states * w ≤ i) same b);
          long = q.filled.long ∙ p.filled.long;
        };
        grid = q.grid;
        means = q.means;
      }

  -- a text that is read is not refused the next time
  pub not_refused : (A : Type 0) (e : Refusal) → TextRefused text 65536 w tau_alone (length mid) e → A
  not_refused A e (too_large n) = absurd (n p.size)
  not_refused A e (no_form s n) = absurd (n h p.lines p.form)
  not_refused A e (out_of_range {h = h'} {ls = ls} s f n) =
      let same = one text h h' p.lines ls p.form f in
      absurd (n (subst (λ x. InRange 65536 x ls) same.0 (subst (InRange 65536 h) same.1 p.range)))
  not_refused A e (few_cells {h = h'} {ls = ls} s f r l) =
      let same = (one text h h' p.lines ls p.form f).0 in
      let enough : h'.states * w ≤ length cells = subst (λ x. x.states * w ≤ length cells) same p.enough in
      absurd (omega (arith, enough, l, p.filled.long))
  not_refused A e (no_room {h = h'} {ls = ls} s f r l n) =
      let same = one text h h' p.lines ls p.form f in
      absurd (n (subst (λ x. HasRoom x.states w tau_alone ls) same.0 (subst (HasRoom h.states w tau_alone) same.1 p.room)))

-- a shelf that covers the states of a model, and a formula that is there: marking is not refused
pub not_unmarked : (A : Type 0) {S : Type 0} (sheets : S → Sheets) (M : Lts) (n : Nodes) (f : ℕ) (before after : S) (e : Refusal) →
    (sheets before).covers ≡ M.states → f < length (roots n) → Marked sheets M n f before after (Err e) → A
not_unmarked A sheets M n f before after Short c l m = absurd (m.0 c)
not_unmarked A sheets M n f before after Unheard c l m = absurd (omega (arith, l, m.1))
not_unmarked A sheets M n f before after Garbled c l m = absurd m
not_unmarked A sheets M n f before after Range c l m = absurd m
not_unmarked A sheets M n f before after Crowded c l m = absurd m
not_unmarked A sheets M n f before after Grammar c l m = absurd m
not_unmarked A sheets M n f before after Nameless c l m = absurd m
not_unmarked A sheets M n f before after Full c l m = absurd m
not_unmarked A sheets M n f before after Silent c l m = absurd m
not_unmarked A sheets M n f before after TooBig c l m = absurd m
