-- Among the list's whole words the eight bytes make the rule's word (`eight_bytes`), and past the last of them it is 0.
use Rattle.std.proofs.Common.{◌∙◌, ◌*◌, le-ltb, lt-ltb}
use Rattle.trial_replay_items.specs.Words.{word_at}
use Rattle.trial_replay_items.proofs.Bytes.{eight_bytes}
use Rattle.trial_replay_items.proofs.words.word.Goals as goal

pub returns-then-k-list : goal.returns-then-k-list
unfolding word_at
returns-then-k-list c = rw (lt-ltb _ _ c.if-k-list.true) (c.from_be_bytes.ensures ∙ eight_bytes c.args.list.now (8 * c.args.k))

pub returns-else-k-list : goal.returns-else-k-list
unfolding word_at
returns-else-k-list c = simp (le-ltb _ _ c.if-k-list.false)
