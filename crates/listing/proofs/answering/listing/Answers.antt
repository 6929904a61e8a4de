use Rattle.std.proofs.Common.{refl}
use Rattle.std.proofs.lemmas.List.{take_rest}
use Rattle.listing.proofs.Fronts.{listing_refused, listing_read}
use Rattle.listing.proofs.answering.listing.Goals as goal
use Rattle.listing.proofs.answering.listing.Goals.{in-Ok+in_ok-list_model-in-Ok, in-Err+in_ok-push_refusal-in-Err}

pub returns : goal.returns
returns c =
    let input = c.args.input.now in let out = c.match-read_front.out.items in
    elim c.match-read_front.branch [
      | in-Ok+in_ok-list_model-in-Ok w ↦
          rw w.out-is
          (listing_read input c.new-labels.result c.read_front.new.labels _ c.read_front.new.cells w.in-Ok.header w.in-Ok.length _ c.new-out.result.items w.list_model.new.out.items
          c.new-labels.ensures c.new-out.ensures.items (take_rest input w.in-Ok.length) w.in-Ok.ensures w.in_ok-list_model-in-Ok.ensures)
      | in-Err+in_ok-push_refusal-in-Err w ↦
          rw w.out-is
          (listing_refused input c.new-labels.result _ w.in-Err.why c.new-out.result.items w.push_refusal.new.out.items
          c.new-labels.ensures refl c.new-out.ensures.items w.in-Err.ensures.0 w.in_ok-push_refusal-in-Err.ensures)
    ]
