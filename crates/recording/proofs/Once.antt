-- A call that judges a part of a capture has one outcome.
-- Assumes nothing.
use mathlib.Core.Path.{◌≡◌, sym, ap, ◌∙◌}
use Rattle.recording.specs.Feed.{AfterFeed, feeds}
use Rattle.recording.specs.Unique.{FeedOnce}
use Rattle.recording.specs.declared.Fed.{Fed}

answer_of : AfterFeed → Fed
answer_of x = record { state = x.state; place = x.place; used = x.used; count = x.count; more = x.more }

pub feed_once : FeedOnce
unfolding answer_of
feed_once x r q v u o p e f =
    let same : feeds r v o ≡ feeds q u p = e ∙ sym f in
    (ap answer_of same, ap (λ (y : AfterFeed). y.words) same, ap (λ (y : AfterFeed). y.space) same)
