use Rattle.std.proofs.Common.{arith, ◌≤◌, ℕ, List, length, min, take, drop, ◌++◌, refl, ap, ◌∙◌}
use Rattle.gitwire.specs.CheckerAnswers.{rest_of}
use Rattle.gitwire.proofs.CopiedLines.{copies, gives_last, gives_more, rest_is}
use Rattle.gitwire.proofs.judge.Judge.copy_lines.Goals as goal

pub returns-then-is_last : goal.returns-then-is_last
returns-then-is_last c =
    let old = c.args.self.now in
    let buffer = c.args.buffer.now in
    let rest = rest_is _ _ old.copied c.lines.ensures in
    let least = c.min-count.ensures ∙ ap (λ (l : List ℕ). min (length l) (length buffer)) rest in
    let put = c.copy_from_slice.ensures.after ∙ ap (take c.min-count.result) rest in
    let last = c.if-is_last.true ∙ ap length rest in
    let all : length (rest_of old) ≤ c.min-count.result = omega (arith, last) in
    copies old _ buffer _ _ c.requires.waits old.within c.requires.space least (ap (λ (l : List ℕ). l ++ drop c.min-count.result buffer) put)
    (gives_last old _ _ all refl c.lines_taken.ensures.carries) c.lines_taken.ensures.stays_opened

pub returns-else-is_last : goal.returns-else-is_last
returns-else-is_last c =
    let old = c.args.self.now in
    let buffer = c.args.buffer.now in
    let rest = rest_is _ _ old.copied c.lines.ensures in
    let least = c.min-count.ensures ∙ ap (λ (l : List ℕ). min (length l) (length buffer)) rest in
    let put = c.copy_from_slice.ensures.after ∙ ap (take c.min-count.result) rest in
    copies old _ buffer _ _ c.requires.waits old.within c.requires.space least (ap (λ (l : List ℕ). l ++ drop c.min-count.result buffer) put)
    (gives_more old _ _ refl refl) (λ opened. opened)
