use Rattle.std.proofs.Common.{arith, rules, ◌≡◌, ◌≤◌, ◌+◌, inl, inr, Some, ap, refl, sym, ◌∙◌, subst}
use Rattle.git_pkt.specs.Machine.Credit.{credit_of}
use Rattle.git_pkt.specs.Machine.PacketReader.{position_of, is_open, open_length, fault_of as reader_fault_of}
use Rattle.git_pkt.specs.declared.fault.Fault.{Fault}
use Rattle.git_pkt.specs.declared.reader.PacketReader.{PacketReader}
use Rattle.git_pkt.proofs.OpenLengths.{failed_counts_none}
use Rattle.git_client.specs.Machine.Client.{reader_of}
use Rattle.git_client.proofs.Closed.{is_sound, closes, ends_between, ends_inside}
use Rattle.git_client.proofs.client.Client.close.Goals as goal
use Rattle.git_client.proofs.client.Client.close.Goals.{in-Ok, in-Err}

pub returns-clause-carries : goal.returns-clause-carries
returns-clause-carries g c =
    let old = c.args.self.now in
    let reader = c.close.new.self in
    elim c.match-close.branch [
      | in-Ok w ↦
          let (same, sound, shut) = w.in-Ok.ensures.between in
          let at : c.match-close.fault.offset ≡ position_of reader = search (rules, w.fault-is, w.position.ensures.value) in
          closes old _ reader c.match-close.fault c.requires c.close.ensures.carries
          (inl (ap reader_fault_of same ∙ sound, ap is_open same ∙ shut, ap (λ (f : Fault). f.kind) w.fault-is, at))
          (search (rules, w.self-is)) refl
      | in-Err w ↦
          closes old _ reader c.match-close.fault c.requires c.close.ensures.carries
          (inr (subst (λ (f : Fault). reader_fault_of reader ≡ Some f) (sym w.fault-is) w.in-Err.ensures.announced))
          (search (rules, w.self-is)) refl
    ]

pub returns-clause-offset : goal.returns-clause-offset
returns-clause-offset g c =
    λ t h given rest v splits.
    let old = c.args.self.now in
    elim c.match-close.branch [
      | in-Ok w ↦
          let (same, sound, shut) = w.in-Ok.ensures.between in
          ends_between t h old v c.requires given rest splits c.match-close.fault.offset shut
          (search (rules, w.fault-is, w.position.ensures.value, ap position_of same))
      | in-Err w ↦
          ends_inside t h old v c.requires given rest splits c.match-close.fault.offset
          (subst (λ (f : Fault). f.offset + open_length (reader_of old) ≡ position_of (reader_of old)) (sym w.fault-is)
          (w.in-Err.ensures.truncated (is_sound old c.requires)).2)
    ]

-- a reader that equals this one has no more credit
no_more : (old new reader : PacketReader) → new ≡ reader → credit_of reader ≤ credit_of old → credit_of new ≤ credit_of old
no_more old new reader is less = let same = ap credit_of is in omega (arith, same, less)

pub returns-clause-credit : goal.returns-clause-credit
returns-clause-credit g c =
    let old = reader_of c.args.self.now in
    let reader = c.close.new.self in
    elim c.match-close.branch [
      | in-Ok w ↦
          let same = ap credit_of w.in-Ok.ensures.between.0 in
          no_more old c.match-close.self.1.0 reader (search (rules, w.self-is)) (omega (arith, same))
      | in-Err w ↦
          let none = failed_counts_none reader w.in-Err.fault w.in-Err.ensures.announced in
          no_more old c.match-close.self.1.0 reader (search (rules, w.self-is)) (omega (arith, none))
    ]
