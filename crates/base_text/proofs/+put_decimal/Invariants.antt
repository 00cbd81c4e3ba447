-- The measure is the number: each call has one digit fewer.
use Rattle.base_text.proofs.+put_decimal.Given as goal

abbrev pub decreases-put_decimal : goal.decreases-put_decimal
decreases-put_decimal l = l.number
