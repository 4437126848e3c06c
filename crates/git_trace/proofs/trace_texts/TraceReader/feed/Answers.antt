use Rattle.std.proofs.Common.{◌≡◌, ◌++◌, ◌∙◌, ap, sym, refl, List, ℕ, false, [], ◌∷◌, take, slice_index, append_assoc, append-nil, rules}
use Rattle.std.proofs.lemmas.List.{take_more, take_all}
use Rattle.std.proofs.lemmas.Result.{IfErr-weaker}
use Rattle.git_trace.specs.declared.shown_lines.Look.{Look}
use Rattle.git_trace.specs.declared.trace_texts.TraceFault.{TraceFault}
use Rattle.git_trace.specs.Machine.TraceReader.{HasRead, IsFeedFault, IsLineFault}
use Rattle.git_trace.specs.TraceTexts.{left_after, lines_after, shown_lines}
use Rattle.git_trace.proofs.TextParts.{shown_joined}
use Rattle.git_trace.proofs.Feeding.{Took, took_none, took_then, fault_on}
use Rattle.git_trace.proofs.trace_texts.TraceReader.feed.Goals as goal

pub bytes-init : goal.bytes-init
bytes-init c = record { took = took_none refl (sym (append-nil _)) refl; look = refl }

pub bytes-preserved : goal.bytes-preserved
bytes-preserved c =
    let chunk = c.args.chunk.now in
    let i = c.bytes.byte-index in
    let so_far = c.bytes.invariant in
    let byte : List ℕ = slice_index chunk i ∷ [] in
    let next : Took c.args.self.now.look c.bytes.self.begun.items c.bytes.out.items c.bytes.self.has_packets byte c.take.new.self.begun.items
    c.take.new.out.items c.take.new.self.has_packets =
    record {
      left_is = c.in_ok-take.ensures.begun;
      shown_is = c.in_ok-take.ensures.shown
          ∙ ap (λ (look : Look). c.bytes.out.items ++ shown_lines look (lines_after c.bytes.self.begun.items byte)) so_far.look;
      has_is = c.in_ok-take.ensures.packets;
      short = c.in_ok-take.ensures.short;
    } in
    record {
      took = rw (take_more chunk i 0 c.bytes-test.true) (took_then so_far.took next);
      look = c.in_ok-take.ensures.look ∙ so_far.look;
    }

pub returns-in_err-take-clause-fault : goal.returns-in_err-take-clause-fault
returns-in_err-take-clause-fault c =
    let chunk = c.args.chunk.now in
    let line : TraceFault → Type 0 = IsLineFault c.bytes.self.begun.items (slice_index chunk c.bytes.byte-index ∷ []) in
    IfErr-weaker c.from_residual.result line (λ fault. (fed : List ℕ) → HasRead c.args.self.now fed → IsFeedFault (fed ++ chunk) fault)
    (λ fault at fed read. fault_on fed chunk c.bytes.self.begun.items c.bytes.byte-index fault c.bytes-test.true
    (c.bytes.invariant.took.left_is ∙ ap (λ (l : List ℕ). left_after l (take c.bytes.byte-index chunk)) read.begun) at)
    (search rules)

pub returns-clause-read : goal.returns-clause-read
returns-clause-read c fed read =
    let chunk = c.args.chunk.now in
    let all : take c.bytes.byte-index chunk ≡ chunk = take_all _ _ c.bytes-test.false in
    let before : Took c.args.self.now.look [] [] false fed c.args.self.now.begun.items
    (shown_lines c.args.self.now.look (lines_after [] fed)) c.args.self.now.has_packets =
    record { left_is = read.begun; shown_is = refl; has_is = read.packets; short = read.short } in
    let shown : Took c.args.self.now.look c.args.self.now.begun.items c.args.out.now.items c.args.self.now.has_packets chunk c.bytes.self.begun.items
    c.bytes.out.items c.bytes.self.has_packets = rw all at c.bytes.invariant.took in
    let next : Took c.args.self.now.look c.args.self.now.begun.items (shown_lines c.args.self.now.look (lines_after [] fed)) c.args.self.now.has_packets
    chunk c.bytes.self.begun.items _ c.bytes.self.has_packets =
    record { left_is = shown.left_is; shown_is = refl; has_is = shown.has_is; short = shown.short } in
    let done = took_then before next in
    record { begun = done.left_is; packets = done.has_is; short = done.short }

pub returns-clause-shown : goal.returns-clause-shown
returns-clause-shown c fed read before is =
    let chunk = c.args.chunk.now in
    let look = c.args.self.now.look in
    let all : take c.bytes.byte-index chunk ≡ chunk = take_all _ _ c.bytes-test.false in
    let shown = rw all at c.bytes.invariant.took in
    shown.shown_is ∙ ap (λ (l : List ℕ). l ++ shown_lines look (lines_after c.args.self.now.begun.items chunk)) is ∙ append_assoc before _ _
    ∙ ap (λ (l : List ℕ). before ++ (shown_lines look (lines_after [] fed) ++ shown_lines look (lines_after l chunk))) read.begun
    ∙ ap (λ (l : List ℕ). before ++ l) (sym (shown_joined look [] fed chunk))
