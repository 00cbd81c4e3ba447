-- The measure is the count of digits.
use Rattle.base_text.proofs.+put_hex_digits.Given as goal

abbrev pub decreases-put_hex_digits : goal.decreases-put_hex_digits
decreases-put_hex_digits l = l.count
