pub mod EvenPlaces
