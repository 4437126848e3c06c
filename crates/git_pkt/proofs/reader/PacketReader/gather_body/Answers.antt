use Rattle.std.proofs.Common.{◌≡◌, ◌+◌, ◌≤◌, ◌++◌, length, take, ℕ, arith, ap, sym, ◌∙◌, refl, subst, length-append, List}
use Rattle.std.proofs.lemmas.List.{length-take-le}
use Rattle.git_pkt.specs.Machine.HeldPacket.{IsGathering}
use Rattle.git_pkt.specs.declared.progress.Progress.TheVariants.{Whole}
use Rattle.git_pkt.proofs.Gathered.{gathering_more, gathering_whole}
use Rattle.git_pkt.proofs.ReaderMoves.{moves_from}
use Rattle.git_pkt.proofs.reader.PacketReader.gather_body.Goals as goal

pub invariant_of-self-clause-gathered : goal.invariant_of-self-clause-gathered
invariant_of-self-clause-gathered c = λ e.
    let count = c.gathered-count.result in
    let kept = c.gathered-count.ensures.kept (omega arith) in
    let counted = length-take-le count c.args.self.now.hold.items kept.within in
    let taken : length (take c.min-used.result c.args.chunk.now) ≡ c.min-used.result =
    length-take-le c.min-used.result c.args.chunk.now (omega arith) in
    let placed : take (count + c.min-used.result) c.place.new.hold.items
    ≡ take count c.args.self.now.hold.items ++ take c.min-used.result c.args.chunk.now =
    subst (λ (n : ℕ). take (count + n) c.place.new.hold.items
    ≡ take count c.args.self.now.hold.items ++ take c.min-used.result c.args.chunk.now) taken c.place.ensures.placed in
    let four : 4 ≤ length (take count c.args.self.now.hold.items) = omega arith in
    record {
      within = omega (arith, c.place.ensures.long, taken);
      gathering =
          subst (λ (l : List ℕ). IsGathering l c.args.self.now.field) (sym placed)
          (gathering_more (take count c.args.self.now.hold.items) _ _ kept.gathering four
          (omega (arith, counted, length-append (take count c.args.self.now.hold.items) (take c.min-used.result c.args.chunk.now))));
      behind = omega (arith, kept.behind);
    }

pub returns-clause-moves : goal.returns-clause-moves
returns-clause-moves c =
    let count = c.gathered-count.result in
    let kept = c.gathered-count.ensures.kept (omega arith) in
    let counted = length-take-le count c.args.self.now.hold.items kept.within in
    let taken : length (take c.min-used.result c.args.chunk.now) ≡ c.min-used.result =
    length-take-le c.min-used.result c.args.chunk.now (omega arith) in
    let placed : take (count + c.min-used.result) c.place.new.hold.items
    ≡ take count c.args.self.now.hold.items ++ take c.min-used.result c.args.chunk.now =
    subst (λ (n : ℕ). take (count + n) c.place.new.hold.items
    ≡ take count c.args.self.now.hold.items ++ take c.min-used.result c.args.chunk.now) taken c.place.ensures.placed in
    let four : 4 ≤ length (take count c.args.self.now.hold.items) = omega arith in
    let long : length (take count c.args.self.now.hold.items ++ take c.min-used.result c.args.chunk.now) ≡ c.args.self.now.field =
    omega (
      arith,
      counted,
      kept.gathering.partial four,
      length-append (take count c.args.self.now.hold.items) (take c.min-used.result c.args.chunk.now),
    ) in
    moves_from c.args.self.now _ (take count c.args.self.now.hold.items) _ Whole
    (ap (λ (n : ℕ). take n c.args.self.now.hold.items) (sym c.gathered-count.ensures.value)) (omega arith) (record {
      no_fault = refl;
      closed = refl;
      held = c.truncate.ensures.items ∙ placed;
      whole = gathering_whole _ _ _ kept.gathering four long;
    })
