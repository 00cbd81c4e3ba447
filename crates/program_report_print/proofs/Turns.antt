-- The loop of `report_through`, turn by turn: the pieces that came so far are one input, whose last bytes stand in the buffer's front.
use mathlib.Core.Path.{◌≡◌, refl, sym, ◌∙◌}
use mathlib.Core.Bool.{true, false}
use mathlib.Core.List.{List, [], ◌++◌, append-nil, append_assoc}
use Prim.Native.Nat.{ℕ, ◌+◌, ◌-◌, ◌*◌, ◌<◌, ◌≤◌}
use native.Mathlib.Omega.{arith}
use Rattle.std.specs.Prelude.{Result, Ok, Err, IfOk, MatchResult}
use lib.ListN.{length, take, drop, length-append, length-take, length-drop}
use lib.Seq.{take-add, take_all, take_at, take-take, take-append-le, drop-append-le, drop-drop}
use Rattle.report_front.specs.Front.{enough_bytes}
use Rattle.report_totals.specs.Totals.{totals_of, most_sheets}
use Rattle.report_totals.specs.Counting.{Running}
use Rattle.report_totals.specs.declared.Totals.{Totals}
use Rattle.report_totals.proofs.Sheets.{running_none, sheets_most}
use Rattle.report.specs.Feeding.{Stands, Fed}
use Rattle.report.specs.declared.Progress.{Progress}
use Rattle.report.proofs.Progressing.{stands_none, fed_last}
use Rattle.program_report_print.specs.AroundReads.{said, Lent, Refilled, Told}

kept_stay : (before rest : List ℕ) (kept : ℕ) → kept ≤ length before → take kept (take kept before ++ rest) ≡ take kept before
kept_stay before rest kept h =
    let front = length-take kept before in
    take_at (take kept before) rest kept (omega arith)

-- the buffer after a read into its part behind the first `kept` bytes, one that failed too
pub refilled : {E : Type 0} (before came : List ℕ) (kept : ℕ) (input : Result ℕ E) → kept ≤ length before
    → IfOk input (λ count. count ≤ length came)
    → MatchResult input (Refilled before kept (take kept before ++ (came ++ [])))
    (λ _. take kept (take kept before ++ (came ++ [])) ≡ take kept before)
refilled before came kept (Ok count) h most =
    let front = length-take kept before in
    record {
      most = simp (length-append, append-nil) (omega arith);
      front = kept_stay before (came ++ []) kept h;
    }
refilled before came kept (Err failure) h none = kept_stay before (came ++ []) kept h

module _ (before : List ℕ) (first : ℕ) where
  -- before a turn: the report stands in the input before the buffer's bytes, whatever comes behind them
  pub record Turn (buffer : List ℕ) (sum : Totals) (filled brought : ℕ) : Type 0 where
    pub lent : Lent before first
    pub same : length buffer ≡ length before
    pub most : filled ≤ length buffer
    pub running : Running sum
    pub few : brought ≤ 524288 * (sum.sheets + 1)
    pub input : List ℕ
    pub stands : (more : List ℕ) → Stands sum (take filled buffer ++ more) (input ++ more)
    pub long : length input ≡ brought
    pub least : first ≤ brought
    pub begins : take first input ≡ take first before
    pub at_once : first < length before → (brought ≡ first) × (filled ≡ first)
    pub inside : filled ≤ brought
    pub ends : drop (brought - filled) input ≡ take filled buffer

  pub turn_first : (sum : Totals) → Lent before first → sum ≡ totals_of [] → Turn before sum first first
  turn_first sum lent e =
      let none : first - first ≡ 0 = omega arith in
      record {
        lent = lent;
        same = refl;
        most = lent.most;
        running = running_none sum e;
        few = omega (arith, lent.long, lent.most);
        input = take first before;
        stands = λ more. stands_none sum (take first before ++ more) e;
        long = let cut = length-take first before in let most = lent.most in omega arith;
        least = omega arith;
        begins = take-take first first before (omega arith);
        at_once = λ l. (refl, refl);
        inside = omega arith;
        ends = rw none;
      }

  module _ (buffer : List ℕ) (sum : Totals) (filled brought : ℕ) (turn : Turn buffer sum filled brought) where
    -- the input has ended
    pub turn_ends : {E : Type 0} (progress : Progress) → filled < length buffer → Fed sum (take (filled - 0) buffer) 1 progress
        → Told {E = E} before first buffer (Ok (said progress brought filled))
    turn_ends progress l fed =
        let all : filled - 0 ≡ filled = omega arith in
        let stands = rw (append-nil, append-nil) at (turn.stands []) in
        record {
          read = λ short. refl;
          whole = record {
            input = turn.input;
            long = turn.long;
            begins = turn.begins;
            at_once = turn.at_once;
            ends = turn.ends;
            ended = λ k. fed_last sum (take filled buffer) turn.input progress (rw all at fed) stands;
            cut = λ k more. absurd (omega arith);
          };
        }

    -- the buffer is full
    module _ (full : length buffer ≤ filled) (progress : Progress) (fed : Fed sum buffer enough_bytes progress) where
      full_stands : (more : List ℕ) → Stands sum (buffer ++ more) (turn.input ++ more)
      full_stands more = rw (take_all filled buffer full) at (turn.stands more)

      pub turn_stops : {E : Type 0} → progress.stopped ≡ true → Told {E = E} before first buffer (Ok (said progress brought filled))
      turn_stops off = record {
        read = λ short. refl;
        whole = record {
          input = turn.input;
          long = turn.long;
          begins = turn.begins;
          at_once = turn.at_once;
          ends = turn.ends;
          ended = λ k. absurd (omega arith);
          cut = λ k more.
              let stands = full_stands more in
              (off, rw off (fed.takes.stops off (turn.input ++ more) more (λ l. absurd (omega arith)) stands));
        };
      }

      -- a later read failed
      pub turn_fails : {E : Type 0} (after : List ℕ) (failure : E) → Told before first after (Err failure)
      turn_fails after failure = record {
        read = λ short. absurd (let once = turn.at_once short in let same = turn.same in omega arith);
        whole = tt;
      }

      pub turn_less : progress.stopped ≡ false → most_sheets - progress.totals.sheets < most_sheets - sum.sheets
      turn_less on =
          let lent = turn.lent.long in
          let same = turn.same in
          let more = fed.counts on (omega arith) in
          let most = sheets_most progress.totals (fed.takes.running on) in omega arith

      -- the bytes that were not taken are moved to the front, and more are read behind them
      module _ (on : progress.stopped ≡ false) (moved later : List ℕ) (read : ℕ)
          (moved_long : length moved ≡ length buffer)
          (kept_are : take (length buffer - progress.taken) moved ≡ drop progress.taken buffer)
          (later_long : length later ≡ length moved) (refill : Refilled moved (length moved - progress.taken) later read) where
        abbrev kept : ℕ
        kept = length moved - progress.taken

        abbrev came : List ℕ
        came = take read (drop kept later)

        kept_is : kept ≡ length buffer - progress.taken
        kept_is = omega arith

        came_long : length came ≡ read
        came_long =
            let front = length-take read (drop kept later) in
            let rest = length-drop kept later in
            let most = refill.most in omega arith

        in_front : take (kept + read) later ≡ drop progress.taken buffer ++ came
        in_front =
            let front : take kept later ≡ drop progress.taken buffer = refill.front ∙ (rw (← kept_is) at kept_are) in
            take-add kept read later ∙ rw front

        brought_most : brought + read ≤ 524288 * (progress.totals.sheets + 1)
        brought_most =
            let lent = turn.lent.long in
            let same = turn.same in
            let more = fed.counts on (omega arith) in
            let few = turn.few in
            let most = refill.most in omega arith

        -- so their number fits: a report has at most 1,000,000 sheets
        pub brought_fits : brought + read ≤ 524288 * (most_sheets + 1)
        brought_fits =
            let most = brought_most in
            let sheets = sheets_most progress.totals (fed.takes.running on) in omega arith

        still_ends : drop ((brought + read) - (kept + read)) (turn.input ++ came) ≡ take (kept + read) later
        still_ends =
            let inside = turn.inside in
            let taken = fed.takes.inside in
            let most = turn.most in
            let long = turn.long in
            let start : (brought + read) - (kept + read) ≡ (brought - filled) + progress.taken = omega arith in
            let kept_end : drop ((brought - filled) + progress.taken) turn.input ≡ drop progress.taken buffer =
            sym (drop-drop progress.taken (brought - filled) turn.input) ∙ rw (turn.ends, take_all filled buffer full) in
            rw (start, drop-append-le ((brought - filled) + progress.taken) turn.input came (omega arith), in_front, kept_end)

        pub turn_next : Turn later progress.totals (kept + read) (brought + read)
        turn_next = record {
          lent = turn.lent;
          same = later_long ∙ moved_long ∙ turn.same;
          most = refill.most;
          running = fed.takes.running on;
          few = brought_most;
          input = turn.input ++ came;
          stands = λ more.
              let rest = came ++ more in
              rw (in_front, append_assoc (drop progress.taken buffer) came more, append_assoc turn.input came more)
              (fed.takes.goes_on on (turn.input ++ rest) rest (λ l. absurd (omega arith)) (full_stands rest));
          long = length-append turn.input came ∙ (let a = turn.long in let b = came_long in omega arith);
          least = let least = turn.least in omega arith;
          begins = take-append-le first turn.input came (omega (arith, turn.least, turn.long)) ∙ turn.begins;
          at_once = λ l. absurd (let once = turn.at_once l in let same = turn.same in omega arith);
          inside = let a = turn.inside in let b = turn.most in omega arith;
          ends = still_ends;
        }
