-- What is looked at of a host's server between two calls: the request at hand, and the format of object names.
use Rattle.std.specs.Prelude.{Option, Some, None}
use Rattle.git_names.specs.declared.object_format.Format.{Format}
use Rattle.git_msg.specs.Asked.{Asked, fetch, ls_refs, object_info}
use Rattle.git_msg.specs.Machine.HeldRequest.{asked_of}
use Rattle.git_host.specs.Admissions.{asked_of as admission_asked}
use Rattle.git_host.specs.FetchPlaces.{asked_of as fetch_asked}
use Rattle.git_host.specs.SizesPlaces.{sizes_asked}
use Rattle.git_host.specs.declared.host_answer.HostAnswer.{HostAnswer}
use Rattle.git_host.specs.declared.host_answer.HostAnswer.TheVariants.{Admission, Fetch, References, Sizes, Whole}
use Rattle.git_host.specs.declared.host_server.Phase.{Phase}
use Rattle.git_host.specs.declared.host_server.Phase.TheVariants.{Asked as WholeRequest, Answering}
use Rattle.git_host.specs.declared.host_server.HostServer.{HostServer}
use Rattle.git_host.specs.declared.references_answer.ReferencesAnswer.{ReferencesAnswer}
use Rattle.git_host.specs.declared.request_at_hand.RequestAtHand.{RequestAtHand}
use Rattle.git_host.specs.declared.request_at_hand.RequestAtHand.TheVariants as Looked

module _ {A : Type 0} where
  -- what the request asks for, as it is kept
  abbrev pub asked_in : RequestAtHand A → Asked
  asked_in (Looked.Asked request) = asked_of request.now
  asked_in (Looked.Listing listing) = ls_refs listing.now.asked
  asked_in (Looked.Fetch request) = fetch request.now.asked
  asked_in (Looked.ObjectInfo request) = object_info request.now.asked

  -- the request for references that is answered, with its prefixes in their order
  abbrev pub references_asked : ReferencesAnswer A → Asked
  references_asked answer = ls_refs answer.listing.asked

  -- the request that is answered
  abbrev pub answered_by : HostAnswer A → Option Asked
  answered_by (Admission admission) = Some (fetch (admission_asked admission))
  answered_by (Fetch answer) = Some (fetch (fetch_asked answer))
  answered_by (References answer) = Some (references_asked answer)
  answered_by (Sizes answer) = Some (object_info (sizes_asked answer))
  answered_by Whole = None

  -- the request that is asked about or answered
  abbrev pub at_hand : Phase A → Option Asked
  at_hand (WholeRequest request) = Some (asked_of request)
  at_hand (Answering answer) = answered_by answer
  at_hand phase = None

  abbrev pub request_of : HostServer A → Option Asked
  request_of server = at_hand server.phase

  abbrev pub format_of : HostServer A → Format
  format_of server = server.offer.format
