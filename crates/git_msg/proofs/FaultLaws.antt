-- A list of packets is a request or has one first error, never both.
use Rattle.std.proofs.Common.{◌≡◌, ℕ, List, [], ◌∷◌, ◌++◌, ap, sym, ◌∙◌}
use Rattle.git_pkt.specs.Splits.{Given}
use Rattle.git_pkt.specs.declared.fault.Kind.{Kind}
use Rattle.git_msg.specs.declared.offers.Offer.{Offer}
use Rattle.git_msg.specs.Asked.{Asked}
use Rattle.git_msg.specs.Lines.{Line, has_delimiter, HasFault}
use Rattle.git_msg.specs.Requests.{AreLines, Asks, FirstFault, IsLineAfter, IsRefusedAfter}
use Rattle.git_msg.proofs.ItemLaws.{items_or_stop, one_stop, stop_at_last}
use Rattle.git_msg.proofs.LineLaws.{line_or_fault, one_line_after, one_fault, flush_or_fault_in}

module _ (offer : Offer) (limit : ℕ) where
  -- a line has no error
  no_fault_in_line : (kind : Kind) (offset : ℕ) (before : List Line) (g : Given) (line : Line) → IsLineAfter offer limit before g line
      → IsRefusedAfter offer limit kind offset before g → ⊥
  no_fault_in_line kind offset before g line is refused = line_or_fault offer limit before g.packet line kind is refused.fault

  -- nor have lines
  pub no_fault_in_lines : (packets : List Given) (lines : List Line) (kind : Kind) (offset : ℕ) → AreLines offer limit [] packets lines
      → FirstFault offer limit packets kind offset → ⊥
  no_fault_in_lines packets lines kind offset =
      items_or_stop (IsLineAfter offer limit) (one_line_after offer limit) (IsRefusedAfter offer limit kind offset) (no_fault_in_line kind offset) packets lines

  -- if all packets before the last are lines, the first error is in the last one
  pub fault_at_last : (front : List Given) (last : Given) (lines : List Line) (kind : Kind) (offset : ℕ)
      → AreLines offer limit [] front lines → FirstFault offer limit (front ++ last ∷ []) kind offset → HasFault offer limit lines last.packet kind
  fault_at_last front last lines kind offset are k =
      (stop_at_last (IsLineAfter offer limit) (one_line_after offer limit) (IsRefusedAfter offer limit kind offset) (no_fault_in_line kind offset)
      front last lines are k).fault

  -- a whole request has no error
  pub no_fault_in_request : (packets : List Given) (asked : Asked) (kept : ℕ) (kind : Kind) (offset : ℕ)
      → Asks offer limit packets asked kept → FirstFault offer limit packets kind offset → ⊥
  no_fault_in_request packets asked kept kind offset h k =
      let fault = fault_at_last h.front h.last h.lines kind offset h.taken (rw h.whole at k) in
      flush_or_fault_in (has_delimiter h.lines) offer limit h.lines kind h.checks (rw h.ends at fault)

  -- packets have only one first error
  pub one_first_fault : (packets : List Given) (kind other : Kind) (offset place : ℕ)
      → FirstFault offer limit packets kind offset → FirstFault offer limit packets other place → (kind ≡ other) × (offset ≡ place)
  one_first_fault packets kind other offset place h k =
      let (same, here) = one_stop (IsLineAfter offer limit) (one_line_after offer limit) (IsRefusedAfter offer limit kind offset)
      (IsRefusedAfter offer limit other place) (no_fault_in_line kind offset) (no_fault_in_line other place) packets h k in
      let fault : HasFault offer limit k.items k.at.packet kind = rw (same, here) at h.why.fault in (
        one_fault offer limit k.items k.at.packet kind other fault k.why.fault,
        h.why.offset_is ∙ ap (λ (g : Given). g.offset) here ∙ sym k.why.offset_is,
      )
