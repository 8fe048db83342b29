-- Each place is read where its group begins.
use Rattle.gaps.proofs.fill.places_of.Goals as goal

pub returns : goal.returns
returns c =
    rw (
      c.begin_at.ensures.0,
      c.begin_at-2.ensures.0,
      c.begin_at-3.ensures.0,
      c.begin_at-4.ensures.0,
    )
