use Rattle.std.proofs.Common.{arith, ◌≡◌, ◌∙◌, ℕ, List, ◌++◌, sym, ap, length, take, slice_index, ◌+◌, length-append}
use Rattle.std.proofs.lemmas.List.{append-nil, length-take-le}
use Rattle.git_pkt.specs.Escape.{escape_of, escaped_of}
use Rattle.git_pkt.proofs.Escapes.{escaped_more}
use Rattle.gitwire.specs.Buffers.{put_before}
use Rattle.gitwire.proofs.FilledBuffers.{filled_more}
use Rattle.gitwire.proofs.escape.gitwire_escape.Goals as goal

pub loop-used-preserved : goal.loop-used-preserved
loop-used-preserved c =
    let so_far = c.loop-used.invariant in
    let bytes : List ℕ = c.args.bytes.now in
    let front : List ℕ = escaped_of (take c.loop-used.used bytes) in
    let escape : List ℕ = take c.escape_into-length.result c.escape_into-length.new.out in
    let one : escape ≡ escape_of (slice_index bytes c.loop-used.used) =
    c.escape_into-length.ensures.escaped ∙ append-nil (escape_of (slice_index bytes c.loop-used.used)) in
    let more : front ++ escape ≡ escaped_of (take (c.loop-used.used + 1) bytes) =
    ap (λ (l : List ℕ). front ++ l) one ∙ sym (escaped_more bytes c.loop-used.used c.loop-used-test.true) in
    let long : length escape ≡ c.escape_into-length.result = length-take-le c.escape_into-length.result c.escape_into-length.new.out
    (omega (arith, c.escape_into-length.auto.out, c.escape_into-length.ensures.within)) in
    record {
      ends = c.put_at-end.ensures.end ∙ ap (λ (n : ℕ). n + length escape) so_far.ends ∙ sym (length-append front escape) ∙ ap length more;
      fits = omega (arith, long, so_far.fits, c.put_at-end.ensures.end, c.if-buffer-end.false);
      filled =
          filled_more c.args.buffer.now front escape c.loop-used.buffer c.put_at-end.new.slice c.loop-used.end so_far.ends so_far.filled
          c.put_at-end.ensures.placed
          ∙ ap (λ (l : List ℕ). put_before l c.args.buffer.now) more;
    }
