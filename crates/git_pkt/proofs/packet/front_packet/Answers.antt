use Rattle.std.proofs.Common.{arith, ap, subst, List, ℕ, length-take, take, sym, ◌∙◌}
use Rattle.std.specs.Io.{StartsWith}
use Rattle.git_pkt.specs.Fronts.{HasFront}
use Rattle.git_pkt.proofs.Fronts.{front_has_digits, front_is, front_within}
use Rattle.git_pkt.proofs.packet.front_packet.Goals as goal

pub slice_bounds-result-end : goal.slice_bounds-result-end
slice_bounds-result-end c =
    let bytes = c.as_slice-bytes.result.now in
    let within = front_within bytes c.in-Number.field c.in-Number.ensures.digits.1
    (subst HasFront (sym c.as_slice-bytes.ensures.value) c.requires.begins) in
    omega (arith, within, c.max.ensures, length-take c.max.result bytes)

pub unreachable-requires : goal.unreachable-requires
unreachable-requires c =
    front_has_digits _ _ (subst HasFront (sym c.as_slice-bytes.ensures.value) c.requires.begins) c.in-Bad.ensures.digits

pub returns-clause-front : goal.returns-clause-front
returns-clause-front c packet bytes spells starts =
    let held = c.as_slice-bytes.result.now in
    ap (λ (n : ℕ). take n held) c.max.ensures
    ∙ front_is held bytes packet c.in-Number.field c.in-Number.ensures.digits.1 spells
    (subst (λ (l : List ℕ). StartsWith l bytes) (sym c.as_slice-bytes.ensures.value) starts)
