-- Places times masks: at most 2^32 times 16, so the product fits 64 bits and is that of the rules.
use Rattle.grid.proofs.Products.{with_masks, fits_64}
use Rattle.grid.proofs.tensor_length.Goals as goal

pub overflow_mul-result : goal.overflow_mul-result
overflow_mul-result c = fits_64 (with_masks c.samples_length.ensures.1 c.masks.ensures.1)

pub returns : goal.returns
returns c = (
  rw (c.samples_length.ensures.0, c.masks.ensures.0),
  with_masks c.samples_length.ensures.1 c.masks.ensures.1,
)
