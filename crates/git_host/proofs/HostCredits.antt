-- What the bytes of an open packet leave for the steps of its end, at a host's server.
use Rattle.std.proofs.Common.{arith, ◌≡◌, ℕ, ◌*◌, ◌≤◌, Bool, true, false, [], Option, Some, None, refl, ap, ◌∙◌}
use Rattle.std.specs.Prelude.{IfNone}
use Rattle.arrayvec.specs.ArrayVec.{ArrayVec}
use Rattle.git_pkt.specs.Machine.ReaderState.{come_in, is_open_in}
use Rattle.git_pkt.specs.Machine.Credit.{Pays, credit_of as packet_credit}
use Rattle.git_pkt.specs.declared.reader.State.{State}
use Rattle.git_pkt.specs.declared.reader.State.TheVariants.{Between as NotOpen, Gathering, Passing, Failed as Failing}
use Rattle.git_msg.specs.Machine.RequestStreams.{credit_of as stream_credit, HasRead, IsLent, IsUnlent, is_within_packet, wants_input}
use Rattle.git_host.specs.HostServer.{credit_in, credit_of, first_phase, StopsHost, is_asked, refused_by}
use Rattle.git_pkt.specs.Machine.LentHold.{with_hold_by}
use Rattle.git_pkt.specs.declared.reader.PacketReader.{PacketReader}
use Rattle.git_pkt.specs.declared.fault.Fault.{Fault}
use Rattle.git_pkt.specs.declared.fault.Kind.{Kind}
use Rattle.git_pkt.specs.declared.fault.Kind.TheVariants.{RemoteError}
use Rattle.git_msg.specs.declared.streams.RequestStream.{RequestStream}
use Rattle.git_host.specs.declared.host_answer.HostAnswer.{HostAnswer}
use Rattle.git_host.specs.declared.host_server.HostServer.{HostServer}
use Rattle.git_host.specs.declared.host_server.Phase.{Phase}
use Rattle.git_host.specs.declared.host_server.Phase.TheVariants.{Advertising, Reading, Asked as Whole, Answering, Refusing, Ended}
use Rattle.git_host.proofs.HostBytes.{new_between}
use Rattle.git_host.proofs.HostRequests.{asked_is}

credit_lent : (r : PacketReader) (hold : ArrayVec ℕ) (b : Bool) (e : is_open_in r.state ≡ b) → packet_credit (with_hold_by r hold b e) ≡ packet_credit r
credit_lent r hold true e = refl
credit_lent r hold false e = refl

pub lent_credit : {A : Type 0} (old : RequestStream A) (hold : ArrayVec ℕ) (new : RequestStream A) → IsLent old hold new
    → stream_credit new ≡ stream_credit old
lent_credit old hold new lent = ap packet_credit lent.packets ∙ credit_lent old.packets hold (is_open_in old.packets.state) refl

pub unlent_credit : {A X : Type 0} (old new : RequestStream A) (o : Option X) → o ≡ None → IfNone o (IsUnlent old new)
    → stream_credit new ≡ stream_credit old
unlent_credit old new None none left = ap packet_credit left.packets
unlent_credit old new (Some x) none left = absurd (cc)

credit_most : {A : Type 0} (phase : Phase A) (stream : RequestStream A) → credit_in phase stream ≤ stream_credit stream
credit_most Advertising stream = omega arith
credit_most Reading stream = omega arith
credit_most (Whole request) stream = omega arith
credit_most (Answering answer) stream = omega arith
credit_most (Refusing fault) stream = omega arith
credit_most (Ended outcome) stream = omega arith

pub credit_falls : {A : Type 0} (phase : Phase A) (old : HostServer A) (new : RequestStream A) → credit_of old ≡ stream_credit old.stream
    → stream_credit new ≡ stream_credit old.stream → credit_in phase new ≤ credit_of old
credit_falls phase old new all same = omega (arith, all, same, credit_most phase new)

pub answering_credit : {A : Type 0} (old : HostServer A) (answer : HostAnswer A) → old.phase ≡ Answering answer → credit_of old ≡ stream_credit old.stream
answering_credit old answer is = ap (λ (p : Phase _). credit_in p old.stream) is

-- an answer's hold was not lent
pub unlent_falls : {A X : Type 0} (old : HostServer A) (answer : HostAnswer A) (new : RequestStream A) (o : Option X) → old.phase ≡ Answering answer
    → o ≡ None → IfNone o (IsUnlent old.stream new) → credit_in (Answering answer) new ≤ credit_of old
unlent_falls old answer new o was none left =
    credit_falls (Answering answer) old new (answering_credit old answer was) (unlent_credit old.stream new o none left)

pub advertising_credit : {A : Type 0} (old : HostServer A) → old.phase ≡ Advertising → credit_of old ≡ stream_credit old.stream
advertising_credit old is = ap (λ (p : Phase _). credit_in p old.stream) is

pub asked_credit : {A : Type 0} (old : HostServer A) → is_asked old.phase ≡ true → credit_of old ≡ stream_credit old.stream
asked_credit old is =
    let (request, phase) = asked_is old.phase is in
    ap (λ (p : Phase _). credit_in p old.stream) phase

refused_credit : (A : Type 0) (kind : Kind) (fault : Fault) (stream : RequestStream A) → credit_in (refused_by kind fault) stream ≡ 0
refused_credit A RemoteError fault stream = refl
refused_credit A kind fault stream = refl

-- what was read is paid for, by the phase after it
module _ {A : Type 0} (old : HostServer A) (new : RequestStream A) (used before after : ℕ) (reading : old.phase ≡ Reading)
    (pays : Pays used before after (stream_credit old.stream) (stream_credit new)) where
  pub pays_at : (phase : Phase A) → Pays used before after (credit_of old) (credit_in phase new)
  pays_at phase = record {
    rises = pays.rises;
    within = omega (arith, pays.within, credit_most phase new, ap (λ (p : Phase A). credit_in p old.stream) reading);
  }

  pub pays_off : (left : ℕ) → left ≡ 0 → Pays used before after (credit_of old) left
  pays_off left none = record {
    rises = pays.rises;
    within = omega (arith, pays.within, none, ap (λ (p : Phase A). credit_in p old.stream) reading);
  }

-- nothing is left once the input is refused
pub refused_free : {A : Type 0} (old : HostServer A) (phase : Phase A) (stream : RequestStream A) (fault : Fault) → phase ≡ Refusing fault
    → credit_in phase stream ≤ credit_of old
refused_free old phase stream fault is = omega (arith, ap (λ (p : Phase _). credit_in p stream) is)

pub stopped_credit : {A : Type 0} (mid new : HostServer A) (fault : Fault) → StopsHost fault mid new → credit_of new ≡ 0
stopped_credit {A = A} mid new fault stopped = ap (λ (p : Phase A). credit_in p new.stream) stopped.phase ∙ refused_credit A fault.kind fault new.stream

none_open : (state : State) (field : ℕ) → is_open_in state ≡ false → come_in state field ≡ 0
none_open NotOpen field shut = refl
none_open (Gathering count) field shut = absurd (cc)
none_open (Passing left) field shut = absurd (cc)
none_open (Failing fault) field shut = refl

no_credit : {A : Type 0} (stream : RequestStream A) → is_within_packet stream ≡ false → stream_credit stream ≡ 0
no_credit stream shut = ap (λ (n : ℕ). 56 * n) (none_open stream.packets.state stream.packets.field shut)

pub first_credit : {A : Type 0} (advertise : Bool) (stream : RequestStream A) → HasRead [] [] stream → wants_input stream ≡ true
    → credit_in (first_phase {A = A} advertise) stream ≡ 0
first_credit true stream reads wants = no_credit stream (new_between stream reads wants)
first_credit false stream reads wants = no_credit stream (new_between stream reads wants)
