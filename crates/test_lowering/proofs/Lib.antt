pub mod PlaceLaws
pub mod MemberLaws
pub mod SizeLaws
pub mod ExactLaws
pub mod RewritingLaws
pub mod PlacementLaws
