-- The bytes that are stored of a request, and of one for references while it is answered, with each field named.
use Rattle.std.specs.Prelude.{ℕ}
use Rattle.git_msg.specs.declared.limits.Budget.{Budget}
use Rattle.git_msg.specs.declared.fetch.Fetch.TheInside.{Inside as FetchInside}
use Rattle.git_msg.specs.declared.kept.KeptArguments.TheInside.{Inside as KeptInside}
use Rattle.git_msg.specs.declared.listing.Listing.TheInside.{Inside as ListingInside}
use Rattle.git_msg.specs.declared.ls_refs.LsRefs.TheInside.{Inside as LsRefsInside}
use Rattle.git_msg.specs.declared.object_info.ObjectInfo.TheInside.{Inside as ObjectInfoInside}
use Rattle.git_msg.specs.Machine.ArgumentLists.{stored}

module _ {A : Type 0} where
  -- how many bytes it stores, all of them for its request
  abbrev pub listing_stored : ListingInside A → ℕ
  listing_stored l = l.request.stored

  -- the same with each field named, so that none can be added without being counted
  abbrev pub listing_stored_by_fields : ListingInside A → ℕ
  listing_stored_by_fields l =
      let record { request = request; is_ordered = is_ordered } = l in
      request.stored

  abbrev pub kept_stored_by_fields : KeptInside A → ℕ
  kept_stored_by_fields q =
      let record { format = format; budget = budget; lists = lists } = q in
      stored lists

  abbrev pub ls_refs_stored_by_fields : LsRefsInside A → ℕ
  ls_refs_stored_by_fields q =
      let record { arguments = arguments } = q in
      arguments.stored

  abbrev pub fetch_stored_by_fields : FetchInside A → ℕ
  fetch_stored_by_fields q =
      let record { arguments = arguments } = q in
      arguments.stored

  abbrev pub object_info_stored_by_fields : ObjectInfoInside A → ℕ
  object_info_stored_by_fields q =
      let record { arguments = arguments } = q in
      arguments.stored

-- numbers only
abbrev pub budget_stored_by_fields : Budget → ℕ
budget_stored_by_fields b =
    let record { limit = limit; kept = kept; within = within; in_range = in_range } = b in
    0
