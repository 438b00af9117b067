pub mod OnPage
