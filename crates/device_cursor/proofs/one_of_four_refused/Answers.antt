-- Four numbers, each with a flag of its own, laid over each other.
use Rattle.device_cursor.proofs.one_of_four_refused.Goals as goal

pub returns : goal.returns
returns g c = rw (c.number_refused-4.ensures, c.number_refused-3.ensures, c.number_refused-2.ensures, c.number_refused.ensures)
