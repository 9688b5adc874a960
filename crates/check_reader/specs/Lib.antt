-- The items of a certificate's check, put together.
pub mod Items
