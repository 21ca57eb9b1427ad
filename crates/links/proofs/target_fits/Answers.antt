-- The function has as many points as its span says.
use Rattle.tables.proofs.Laws.{length-points}
use Rattle.links.proofs.target_fits.Goals as goal

pub returns : goal.returns
returns c = rw (length-points, c.is_ensure.ensures, c.point_or_return.ensures)
