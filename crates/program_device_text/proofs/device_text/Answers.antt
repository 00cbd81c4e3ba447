-- Two ends: a text shorter than 456,967 bytes is refused by 15 and stays as it was (`text_refused`); any other
-- has the curve's text at its front, which is never longer than that (`text_written`).
use Rattle.program_device_text.proofs.Promises.{text_refused, text_written}
use Rattle.program_device_text.proofs.device_text.Goals as goal

pub returns-then-text-lt456967 : goal.returns-then-text-lt456967
returns-then-text-lt456967 c = text_refused _ _ c.if-text-lt456967.true

pub returns : goal.returns
returns c = text_written _ _ c.if-text-lt456967.false c.put_text.ensures
