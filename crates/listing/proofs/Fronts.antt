-- From what reading the front of an input promises to the model of a listing.
use Rattle.std.proofs.Common.{◌≡◌, ℕ, ◌≤◌, List, [], ◌∷◌, ◌++◌, length, take, drop, sym, ap, ◌∙◌, subst, ⊎_elim, arith}
use Rattle.std.proofs.lemmas.Bool.{cases_lt}
use Rattle.std.proofs.lemmas.List.{length-take, append-nil}
use Rattle.base.specs.declared.refusal.Refusal.{Refusal}
use Rattle.base.specs.declared.labels.Labels.{Labels}
use Rattle.meaning.specs.Lts.{Lts}
use Rattle.model.specs.declared.cell.Cell.{Cell}
use Rattle.model.specs.declared.size.Size.{Size}
use Rattle.model.specs.Grids.{GridOver}
use Rattle.aut.specs.declared.header.Header.{Header}
use Rattle.aut.specs.Front.{FrontRefused, FrontTaken}
use Rattle.aut.specs.Front as front
use Rattle.aut.specs.Reading.{RightSize, HasRoom, TextRefused}
use Rattle.aut.specs.Reading as reading
use Rattle.listing.specs.Listing.{refusal, text_of, item_text, Said, read, Listing}
use Rattle.listing.specs.Listing as listing
use Rattle.listing.specs.Models.{tau_alone, ModelRefused, ModelRead}
use Rattle.listing.specs.Models as models
use Rattle.listing.specs.Steps.{GridListed}

pub over_size : (M : Lts) (cells : List Cell) (h : Header) (size : Size) → size ≡ record { states = h.states; slots = 8 }
    → GridOver M cells size.states size.slots h.start → GridOver M cells h.states 8 h.start
over_size M cells h size e k = subst (λ (z : Size). GridOver M cells z.states z.slots h.start) e k

module _ (input : List ℕ) where
  right_size : length input ≤ 32768 → RightSize 32768 8 input
  right_size l = record { short = l; some_slots = omega arith; few_slots = omega arith }

  text_size : (n : ℕ) → length input ≤ 32768 → RightSize 2500000 8 (take n input)
  text_size n l = record { short = omega (arith, l, length-take n input); some_slots = omega arith; few_slots = omega arith }

  text_refused : (n : ℕ) {e : Refusal} → length input ≤ 32768 → TextRefused (take n input) 512 8 tau_alone 4096 e → models.TextRefused (take n input) e
  text_refused n l (reading.too_large s) = absurd (s (text_size n l))
  text_refused n l (reading.no_form s f) = models.no_form f
  text_refused n l (reading.out_of_range s f r) = models.out_of_range f r
  text_refused n l (reading.few_cells {h = h} s f r c) = absurd (omega (arith, r.allowed, c))
  text_refused n l (reading.no_room s f r c w) = models.no_room f r w

  model_refused : {e : Refusal} → FrontRefused input 32768 512 8 tau_alone 4096 e → ModelRefused input e
  model_refused (front.too_large s) = ⊎_elim (λ l. absurd (s (right_size (omega (arith, l))))) (λ l. models.too_long (omega (arith, l))) (cases_lt (length input) 32769)
  model_refused (front.no_model s f) = models.no_model s.short f
  model_refused (front.refused s f r) = models.refused s.short f (text_refused _ s.short r)

  pub listing_refused : (names : List (List ℕ)) (cells : ℕ) (e : Refusal) (before out : List ℕ) → names ≡ tau_alone → cells ≡ 4096 → before ≡ []
      → FrontRefused input 32768 512 8 names cells e → out ≡ before ++ item_text [] (refusal e) → Listing input out
  listing_refused names cells e before out n c b k w =
      let r = subst (λ (x : List (List ℕ)). FrontRefused input 32768 512 8 x 4096 e) n (subst (λ (m : ℕ). FrontRefused input 32768 512 8 names m e) c k) in
      record {
        names = [];
        items = refusal e ∷ [];
        said = listing.Said.refused (model_refused r);
        is = w ∙ ap (λ x. x ++ item_text [] (refusal e)) b ∙ sym (append-nil (item_text [] (refusal e)));
      }

  pub listing_read : (labels after : Labels) (cells cells' : List Cell) (h : Header) (n : ℕ) (rest before out : List ℕ) → labels ≡ tau_alone → before ≡ [] → rest ≡ drop n input
      → FrontTaken input 32768 512 8 labels after cells cells' h n → GridListed cells' h after rest before out → Listing input out
  listing_read labels after cells cells' h n rest before out fresh b r k g =
      let t = k.read in
      record {
        names = after;
        items = g.lines.items;
        said = read {M = g.system} (record {
          short = k.size.short;
          size = n;
          ends = k.ends;
          header = h;
          lines = t.lines;
          form = t.form;
          range = t.range;
          room = subst (λ (x : List (List ℕ)). HasRoom h.states 8 x t.lines) fresh t.room;
          named = subst (λ (x : List (List ℕ)). after ≡ reading.met x t.lines) fresh t.named;
          means = t.means g.system g.over;
          follows = r;
        }) g.lines.answered;
        is = g.lines.written ∙ ap (λ x. x ++ text_of after g.lines.items) b;
      }
