-- The properties of a phase in which packets are expected, the client can ask, has left or has failed.
use Rattle.std.proofs.Common.{◌≡◌, true, false, Some, None, refl}
use Rattle.git_pkt.specs.declared.fault.Fault.{Fault}
use Rattle.git_client.specs.Machine.Turns.{takes_packets, fault_in, is_ready, has_left_in}
use Rattle.git_client.specs.declared.phase.Phase.{Phase}
use Rattle.git_client.specs.declared.phase.Phase.TheVariants.{Receiving, Ready, Leaving, Left, Failed}
use Rattle.git_client.proofs.Carries.{is_quiet}

pub not_ready_where_expected : (phase : Phase) → takes_packets phase ≡ true → is_ready phase ≡ false
not_ready_where_expected (Receiving expected) e = refl
not_ready_where_expected phase e = absurd (cc)

pub not_ready_where_failed : (phase : Phase) (fault : Fault) → fault_in phase ≡ Some fault → is_ready phase ≡ false
not_ready_where_failed (Failed f) fault e = refl
not_ready_where_failed phase fault e = absurd (cc)

pub not_expected_where_failed : (phase : Phase) (fault : Fault) → fault_in phase ≡ Some fault → takes_packets phase ≡ false
not_expected_where_failed (Failed f) fault e = refl
not_expected_where_failed phase fault e = absurd (cc)

pub sound_where_expected : (phase : Phase) → takes_packets phase ≡ true → fault_in phase ≡ None
sound_where_expected (Receiving expected) e = refl
sound_where_expected phase e = absurd (cc)

pub sound_where_ready : (phase : Phase) → is_ready phase ≡ true → fault_in phase ≡ None
sound_where_ready Ready e = refl
sound_where_ready phase e = absurd (cc)

pub not_ready_where_left : (phase : Phase) → has_left_in phase ≡ true → is_ready phase ≡ false
not_ready_where_left Leaving e = refl
not_ready_where_left Left e = refl
not_ready_where_left phase e = absurd (cc)

pub sound_where_left : (phase : Phase) → has_left_in phase ≡ true → fault_in phase ≡ None
sound_where_left Leaving e = refl
sound_where_left Left e = refl
sound_where_left phase e = absurd (cc)

-- ---- a client with no packet to send that has not left

pub quiet_where_ready : (phase : Phase) → is_ready phase ≡ true → is_quiet phase ≡ true
quiet_where_ready Ready e = refl
quiet_where_ready phase e = absurd (cc)

pub quiet_where_expected : (phase : Phase) → takes_packets phase ≡ true → is_quiet phase ≡ true
quiet_where_expected (Receiving expected) e = refl
quiet_where_expected phase e = absurd (cc)

pub quiet_where_failed : (phase : Phase) (fault : Fault) → fault_in phase ≡ Some fault → is_quiet phase ≡ true
quiet_where_failed (Failed f) fault e = refl
quiet_where_failed phase fault e = absurd (cc)
